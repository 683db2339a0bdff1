-- On which record is the newest of its key.
--     latest_more, latest_last   it stays so behind a record of another key;  the one that is appended is so
--     apart_set, apart_out       what holds of each position but that of a key, where that one is another's or goes out
use Rattle.std.proofs.Common.{◌≡◌, ℕ, zero, suc, ◌||◌, true, false, List, [], ◌∷◌, ◌++◌, T, length, map, remove, slice_get, slice_set, Some, is_some, All, refl, sym, ap, subst, ◌∙◌, append_assoc}
use Rattle.std.proofs.lemmas.List.Elements.{All-cons, All-head, All-nil, All-tail}
use Rattle.std.proofs.lemmas.List.Folds.{list_any-append}
use Rattle.std.specs.FinMap.{is_sorted}
use Rattle.std.specs.FinMap.Entries.{below_all}
use Rattle.std.specs.List.{AllByRecursion}
use Rattle.std.specs.Ordering.{is_eq}
use Rattle.std.specs.Option.{option_map}
use Rattle.key_index_flat.specs.FullKeys.{byte_cmp}
use Rattle.key_index_flat.specs.laws.Laws.{T-and_first, T-and_second}
use Rattle.key_index_flat.proofs.content.ContentLemmas.{Less-is_lt}
use Rattle.key_index_flat.proofs.entries.EntryLemmas.{head_apart, same, some_injective, some_not_none}
use Rattle.key_index_store.specs.Indexed.{IsLatest, IsLive, key_at}
use Rattle.key_index_store.specs.Record.{Entry, Fits, encoded}
use Rattle.key_index_store.specs.Salvage.{has_key}
use Rattle.key_index_store.specs.Stored.{records_of}
use Rattle.key_index_store.proofs.LogLemmas.{Spelled, entry_there, records_of-append}

pub All-both : {X : Type 0} (P Q : X → Type 0) (l : List X) → All P l → All Q l → All (λ x. P x × Q x) l
All-both P Q [] h k = All-nil (λ x. P x × Q x)
All-both P Q (x ∷ xs) h k =
    All-cons (λ x. P x × Q x) x xs (All-head P x xs h, All-head Q x xs k) (All-both P Q xs (All-tail P x xs h) (All-tail Q x xs k))

pub no_key : (k : List ℕ) (rs : List Entry) (r : Entry) → has_key k rs ≡ false → same k r.key ≡ false → has_key k (rs ++ r ∷ []) ≡ false
no_key k rs r none other = list_any-append (λ q. same k q.key) rs (r ∷ []) ∙ (λ i. none i || (other i || false))

module _ (log : List ℕ) (r : Entry) (h : Spelled log) (fits : Fits r) where
  abbrev longer : List ℕ
  longer = log ++ encoded (length log) r

  pub latest_more : (p : ℕ) → IsLive log p → same (key_at log p) r.key ≡ false → IsLatest log p → IsLatest longer p
  latest_more p live other l = record {
    before = l.before;
    here = l.here;
    after = l.after ++ r ∷ [];
    split = records_of-append log r h fits ∙ ap (λ rs. rs ++ r ∷ []) l.split ∙ append_assoc l.before (l.here ∷ l.after) (r ∷ []);
    place = l.place;
    key = ap (λ (e : List ℕ × List ℕ). e.0) (entry_there log (encoded (length log) r) p live) ∙ l.key;
    valued = l.valued;
    last = no_key l.here.key l.after r l.last (ap (λ k. same k r.key) (sym l.key) ∙ other);
  }

  pub latest_last : is_some r.value ≡ true → key_at longer (length log) ≡ r.key → IsLatest longer (length log)
  latest_last has own = record {
    before = records_of log;
    here = r;
    after = [];
    split = records_of-append log r h fits;
    place = ap (λ l. length l) (sym h.spelled);
    key = own;
    valued = has;
    last = refl;
  }

-- ---- a list in the order of its keys, without the position of one

module _ (P : ℕ → Type 0) (entry : ℕ → List ℕ × List ℕ) (k : List ℕ) where
  abbrev pub IsApart : ℕ → Type 0
  IsApart p = same (entry p).0 k ≡ false → P p

  abbrev IsSorted : List ℕ → Type 0
  IsSorted l = T (is_sorted byte_cmp (map entry l))

  abbrev IsKeyAt : List ℕ → ℕ → Type 0
  IsKeyAt l i = option_map (λ (e : List ℕ × List ℕ). e.0) (slice_get (map entry l) i) ≡ Some k

  pub apart_all : (l : List ℕ) → AllByRecursion (λ y. same k y ≡ false) (map (λ p. (entry p).0) l) → All IsApart l → All P l
  apart_all [] h all = All-nil P
  apart_all (p ∷ ps) h all =
      All-cons P p ps (All-head IsApart p ps all (head_apart k (entry p).0 h.0)) (apart_all ps h.1 (All-tail IsApart p ps all))

  -- behind a key that is below all of them
  below_apart : (a : List ℕ) (ps : List ℕ) → T (below_all byte_cmp a (map entry ps)) → AllByRecursion (λ y. same a y ≡ false) (map (λ p. (entry p).0) ps)
  below_apart a [] h = tt
  below_apart a (p ∷ ps) h = (ap is_eq (Less-is_lt _ (T-and_first _ _ h)), below_apart a ps (T-and_second _ _ h))

  here_apart : (p : ℕ) (ps : List ℕ) (i : ℕ) → T (below_all byte_cmp (entry p).0 (map entry ps)) → IsKeyAt ps i → same (entry p).0 k ≡ false
  here_apart p [] i h at = absurd (some_not_none k (sym at))
  here_apart p (q ∷ qs) zero h at = ap (same (entry p).0) (sym (some_injective (entry q).0 k at)) ∙ ap is_eq (Less-is_lt _ (T-and_first _ _ h))
  here_apart p (q ∷ qs) (suc i) h at = here_apart p qs i (T-and_second _ _ h) at

  rest_apart : (p : ℕ) (ps : List ℕ) → IsSorted (p ∷ ps) → Some (entry p).0 ≡ Some k → All IsApart ps → All P ps
  rest_apart p ps d at all =
      apart_all ps (subst (λ y. AllByRecursion (λ z. same y z ≡ false) (map (λ p. (entry p).0) ps)) (some_injective (entry p).0 k at) (below_apart (entry p).0 ps (T-and_first _ _ d))) all

  pub apart_set : (l : List ℕ) (i v : ℕ) → IsSorted l → IsKeyAt l i → All IsApart l → P v → All P (slice_set l i v)
  apart_set [] i v d at all p = absurd (some_not_none k (sym at))
  apart_set (x ∷ xs) zero v d at all p = All-cons P v xs p (rest_apart x xs d at (All-tail IsApart x xs all))
  apart_set (x ∷ xs) (suc i) v d at all p =
      All-cons P x (slice_set xs i v) (All-head IsApart x xs all (here_apart x xs i (T-and_first _ _ d) at))
      (apart_set xs i v (T-and_second _ _ d) at (All-tail IsApart x xs all) p)

  pub apart_out : (l : List ℕ) (i : ℕ) → IsSorted l → IsKeyAt l i → All IsApart l → All P (remove l i)
  apart_out [] i d at all = absurd (some_not_none k (sym at))
  apart_out (x ∷ xs) zero d at all = rest_apart x xs d at (All-tail IsApart x xs all)
  apart_out (x ∷ xs) (suc i) d at all =
      All-cons P x (remove xs i) (All-head IsApart x xs all (here_apart x xs i (T-and_first _ _ d) at))
      (apart_out xs i (T-and_second _ _ d) at (All-tail IsApart x xs all))
