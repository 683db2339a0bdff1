-- On snapshots: what records that stand under their own index keys say of each full key.
--     next_position-IsLeast, prev_position-IsLeast  the nearest record in full keys is the nearest entry of the map
--     get-first_with                                the position of a full key is that of the first record that has it
--     get-positions_in                              it is that of the first one of its own list
--     set_map, unset_map                            a list in which one full key changes changes the map there alone
use Rattle.std.proofs.Common.{◌≡◌, ℕ, zero, suc, ◌<◌, true, false, cond, T, List, [], ◌∷◌, length, map, slice_get, Option, Some, None, is_some, refl, sym, ap, subst, ◌∙◌, arith}
use Rattle.std.proofs.lemmas.Bool.{false≢true}
use Rattle.std.proofs.lemmas.Map.Lookups.{exact_bytes}
use Rattle.std.proofs.lemmas.Slice.Eq.{bytes_eq-Decides}
use Rattle.std.specs.Cmp.{IsTotalOrder, tied_itself}
use Rattle.std.specs.Cmp.Lexicographic.{nat_list_cmp_total}
use Rattle.std.specs.FinMap.{entries, find, get, insert, remove, is_sorted, get-entries, get-from_entries, get-insert, get-remove, same_map}
use Rattle.std.specs.Option.{option_map}
use Rattle.std.specs.Ordering.{eq_by_cmp, flip_args, is_eq}
use Rattle.std.specs.Str.{bytes_eq}
use Rattle.std.specs.declared.cmp.Ordering.{Ordering}
use Rattle.std.specs.declared.cmp.Ordering.TheVariants.{Equal}
use Rattle.key_index_flat.specs.Content.{Content, list_at, with_list}
use Rattle.key_index_flat.specs.FullKeys.{IsFiled, IsLeast, above, below, byte_cmp, cmp_keys, first_with}
use Rattle.key_index_flat.specs.Values.{values_of}
use Rattle.key_index_flat.proofs.content.ContentLemmas.{Equal-is_eq, list_at-with_list}
use Rattle.key_index_flat.proofs.entries.EntryLemmas.{same, same_is, same_itself}
use Rattle.key_index_flat.proofs.entries.MapLemmas as nearest
use Rattle.key_index.specs.Snapshot.{key_of, entry_of, positions_of, position_in, next_position, prev_position}
use Rattle.key_index.specs.declared.snapshot.record.Record.{Record}

find-positions_of : (vs : List Record) (q : List ℕ) → find byte_cmp q (entries (positions_of vs)) ≡ position_in q vs
find-positions_of vs q = sym (get-entries (positions_of vs) q) ∙ get-from_entries nat_list_cmp_total (map entry_of vs) q

pub next_position-IsLeast : (vs : List Record) (a : List ℕ) (r : Option Record) → IsLeast (cmp_keys key_of) (above key_of a vs) r → option_map entry_of r ≡ next_position (positions_of vs) a
next_position-IsLeast vs a r h = nearest.first_entry-IsLeast entry_of vs (positions_of vs) (find-positions_of vs) a r h

pub prev_position-IsLeast : (vs : List Record) (a : List ℕ) (r : Option Record) → IsLeast (flip_args (cmp_keys key_of)) (below key_of a vs) r → option_map entry_of r ≡ prev_position (positions_of vs) a
prev_position-IsLeast vs a r h = nearest.last_entry-IsLeast entry_of vs (positions_of vs) (find-positions_of vs) a r h

position_in-first_with : (vs : List Record) (a : List ℕ) → option_map (λ r. r.position) (first_with key_of a vs) ≡ position_in a vs
position_in-first_with [] a = refl
position_in-first_with (r ∷ rs) a =
    elim (bytes_eq (key_of r) a) as (λ b. bytes_eq (key_of r) a ≡ b → option_map (λ r. r.position) (cond b (Some r) (first_with key_of a rs)) ≡ cond (same a (key_of r)) (Some r.position) (position_in a rs)) [
      | true ↦ λ e.
          ap (λ b. cond b (Some r.position) (position_in a rs)) (sym (same_itself a) ∙ ap (same a) (sym ((bytes_eq-Decides (key_of r) a).0 e)))
      | false ↦ λ e.
          let apart : same a (key_of r) ≡ false =
          elim (same a (key_of r)) as (λ b. same a (key_of r) ≡ b → b ≡ false) [
            | true ↦ λ t. absurd (false≢true (sym e ∙ (bytes_eq-Decides (key_of r) a).1 (sym (same_is a (key_of r) t))))
            | false ↦ λ t. refl
          ] refl in
          position_in-first_with rs a ∙ ap (λ b. cond b (Some r.position) (position_in a rs)) (sym apart)
    ] refl

pub get-first_with : (vs : List Record) (a : List ℕ) (found : Option Record) → found ≡ first_with key_of a vs → option_map (λ r. r.position) found ≡ get (positions_of vs) a
get-first_with vs a found is =
    ap (option_map (λ r. r.position)) is ∙ position_in-first_with vs a ∙ sym (get-from_entries nat_list_cmp_total (map entry_of vs) a)

module _ {K : Type 0} {cmp : K → K → Ordering} (o : IsTotalOrder cmp) (exact : (x y : K) → cmp x y ≡ Equal → x ≡ y) (slot : List ℕ → K) where
  pub get-positions_in : (c : Content K Record) → T (is_sorted cmp c) → IsFiled key_of cmp slot c → (a : List ℕ) → get (positions_of (values_of c)) a ≡ position_in a (list_at cmp c (slot a))
  get-positions_in c h f a = get-from_entries nat_list_cmp_total (map entry_of (values_of c)) a ∙ nearest.own_list entry_of o slot a c h f

  -- another list in which one full key changes
  get-positions_of_edit : (c d : Content K Record) (key : List ℕ) (m : List Record) (x : Option ℕ) → T (is_sorted cmp c) → T (is_sorted cmp d) → IsFiled key_of cmp slot c → IsFiled key_of cmp slot d
      → d ≡ with_list cmp c (slot key) m
      → ((a : List ℕ) → position_in a m ≡ cond (eq_by_cmp byte_cmp a key) x (position_in a (list_at cmp c (slot key))))
      → (a : List ℕ) → get (positions_of (values_of d)) a ≡ cond (eq_by_cmp byte_cmp a key) x (get (positions_of (values_of c)) a)
  get-positions_of_edit c d key m x hc hd fc fd is one a =
      let apart : eq_by_cmp cmp (slot a) (slot key) ≡ false → eq_by_cmp byte_cmp a key ≡ false = λ e.
      elim (eq_by_cmp byte_cmp a key) as (λ b. eq_by_cmp byte_cmp a key ≡ b → b ≡ false) [
        | true ↦ λ t. absurd (false≢true (sym e ∙ ap (λ k. eq_by_cmp cmp (slot a) (slot k)) (sym (exact_bytes a key (Equal-is_eq _ t))) ∙ ap is_eq (tied_itself o (slot a))))
        | false ↦ λ t. refl
      ] refl in
      get-positions_in d hd fd a
      ∙ ap (λ z. position_in a (list_at cmp z (slot a))) is
      ∙ ap (position_in a) (list_at-with_list o c (slot key) m (slot a))
      ∙ elim (eq_by_cmp cmp (slot a) (slot key)) as (λ b. eq_by_cmp cmp (slot a) (slot key) ≡ b → position_in a (cond b m (list_at cmp c (slot a))) ≡ cond (eq_by_cmp byte_cmp a key) x (position_in a (list_at cmp c (slot a)))) [
        | true ↦ λ e. one a ∙ ap (λ k. cond (eq_by_cmp byte_cmp a key) x (position_in a (list_at cmp c k))) (sym (exact (slot a) (slot key) (Equal-is_eq _ e)))
        | false ↦ λ e. ap (λ b. cond b x (position_in a (list_at cmp c (slot a)))) (sym (apart e))
      ] refl
      ∙ ap (cond (eq_by_cmp byte_cmp a key) x) (sym (get-positions_in c hc fc a))

  module _ (c d : Content K Record) (key : List ℕ) (m : List Record) (hc : T (is_sorted cmp c)) (hd : T (is_sorted cmp d)) (fc : IsFiled key_of cmp slot c) (fd : IsFiled key_of cmp slot d) (is : d ≡ with_list cmp c (slot key) m) where
    pub set_map : (p : ℕ) → ((a : List ℕ) → position_in a m ≡ cond (eq_by_cmp byte_cmp a key) (Some p) (position_in a (list_at cmp c (slot key))))
        → positions_of (values_of d) ≡ insert (positions_of (values_of c)) key p
    set_map p one = same_map nat_list_cmp_total exact_bytes _ _ (λ a. get-positions_of_edit c d key m (Some p) hc hd fc fd is one a ∙ sym (get-insert nat_list_cmp_total (positions_of (values_of c)) key p a))

    pub unset_map : ((a : List ℕ) → position_in a m ≡ cond (eq_by_cmp byte_cmp a key) None (position_in a (list_at cmp c (slot key))))
        → positions_of (values_of d) ≡ remove (positions_of (values_of c)) key
    unset_map one = same_map nat_list_cmp_total exact_bytes _ _ (λ a. get-positions_of_edit c d key m None hc hd fc fd is one a ∙ sym (get-remove nat_list_cmp_total (positions_of (values_of c)) key a))

pub within_by_key : (a : List ℕ) (l : List Record) (n : ℕ) → option_map key_of (slice_get l n) ≡ Some a → n < length l
within_by_key a [] n e = absurd (subst T (ap is_some (sym e)) tt)
within_by_key a (x ∷ xs) zero e = omega arith
within_by_key a (x ∷ xs) (suc n) e = let rest = within_by_key a xs n e in omega (arith, rest)
