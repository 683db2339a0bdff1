use Rattle.std.proofs.Common.{ap, subst, sym, slice_index, ◌∙◌, arith}
use Rattle.key_index_map.specs.Tags.{IsIn}
use Rattle.key_index_map.specs.Table.{home, tag_of, IsEmptyIn, IsFirstFree}
use Rattle.key_index_map.proofs.Groups.{in_so_many, absent_at_home, begins}
use Rattle.key_index_map.proofs.Free.{empty_home}
use Rattle.key_index_map.proofs.Steps.{some_value, stands_at}
use Rattle.key_index_map.proofs.table.Table.look.Goals as goal

pub returns-then-eq : goal.returns-then-eq
returns-then-eq g c =
    let cell = c.in-Some.first in
    let found = c.in-Some.ensures.found in
    let are = in_so_many c.self.invariant.0 c.groups.result c.groups.ensures in
    let stands =
    stands_at are c.args.self.now c.self.view_is cell c.args.key.now c.get.result.now c.get.ensures (sym c.eq.ensures ∙ c.if-eq.true)
    (omega (arith, found.1, c.home_of-home.ensures.within)) (omega (arith, found.2, c.tag_of.ensures)) in
    let shown = c.home_of-home.ensures.home ∙ sym (begins are c.self.inside.left c.args.self.now c.self.view_is c.args.hash) in
    (stands, some_value g.met.K.Eq.laws are c.args.self.now c.self.view_is c.in-Some.first c.args.key.now stands, subst (λ n. IsIn n cell) shown (found.0, found.1))

pub returns-in-Some-place_with : goal.returns-in-Some-place_with
returns-in-Some-place_with g c =
    let cell = c.in-Some-place_with.cell in
    let found = c.in-Some-place_with.ensures.found in
    let are = in_so_many c.self.invariant.0 c.groups.result c.groups.ensures in
    let at_home = c.home_of-home.ensures.home ∙ ap (home c.groups.result) c.requires in
    let shown = c.home_of-home.ensures.home ∙ sym (begins are c.self.inside.left c.args.self.now c.self.view_is c.args.hash) in (
      absent_at_home are g.met.K.Hash.respects_eq c.args.key.now c.self.inside.left c.args.self.now c.self.view_is c.home_of-home.result at_home
          c.tag_of.result cell (c.tag_of.ensures ∙ ap tag_of c.requires) c.home_of-home.ensures.within c.in-None.ensures.none found.0 found.1 found.2,
      subst (λ n. IsFirstFree c.args.self.now n cell) shown
          (empty_home are c.self.inside.left c.args.self.now c.self.view_is c.home_of-home.result cell c.home_of-home.ensures.within found.0 found.1
          (ap (λ x. slice_index x.tags cell) (sym c.self.view_is) ∙ found.2)),
      subst (λ n. IsEmptyIn c.args.self.now n cell) shown ((found.0, found.1), ap (λ x. slice_index x.tags cell) (sym c.self.view_is) ∙ found.2),
    )
