use Rattle.std.proofs.Common.{◌≡◌, ℕ, Bool, List, Option, length, slice_index, nat_lt, ◌-◌, sym, ap, ◌∙◌, arith}
use Rattle.std.specs.List.{find, range_with_len}
use Rattle.key_index.proofs.tables.TableLemmas.{find-append_found, found_second, free_exists}
use Rattle.key_index.proofs.table.free_from.Goals as goal

abbrev free : List ℕ → ℕ → Bool
free cs i = nat_lt (slice_index cs i) 2

-- what is found from a cell up to the number of cells
found_up_to : (cs : List ℕ) (start cells : ℕ) (r found : Option ℕ) → cells ≡ length cs → r ≡ find (free cs) (range_with_len start (cells - start)) → r ≡ found
    → find (free cs) (range_with_len start (length cs - start)) ≡ found
found_up_to cs start cells r found all first is = ap (λ n. find (free cs) (range_with_len start (n - start))) (sym all) ∙ sym first ∙ is

pub returns-in-Some-clause-first : goal.returns-in-Some-clause-first
returns-in-Some-clause-first c =
    find-append_found (free c.args.controls.now) _ _ _
    (found_up_to c.args.controls.now c.args.start _ _ _ c.len.ensures c.free_between.ensures.first c.in-Some.is)

pub unreachable-requires : goal.unreachable-requires
unreachable-requires c =
    free_exists c.args.controls.now c.args.start c.requires.start c.requires.free
    (found_up_to c.args.controls.now c.args.start _ _ _ c.len.ensures c.free_between.ensures.first c.in_default.is)
    (sym c.free_between-2.ensures.first ∙ c.in_default-free_between.is)

pub returns-clause-first : goal.returns-clause-first
returns-clause-first c =
    let from_zero : c.args.start ≡ c.args.start - 0 = omega arith in
    found_second (free c.args.controls.now) _ _
    (found_up_to c.args.controls.now c.args.start _ _ _ c.len.ensures c.free_between.ensures.first c.in_default.is)
    ∙ ap (λ k. find (free c.args.controls.now) (range_with_len 0 k)) from_zero
    ∙ sym c.free_between-2.ensures.first ∙ c.in-Some-free_between.is
