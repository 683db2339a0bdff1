-- What a flat index keeps: the first value of each list in one map, and in another the tails of the lists that have more.
--     list_of, content_of   the list that a first value and a tail make; the content that all of them stand for
--     list_left             what a retention leaves of a list: its first value if that stays, else the next one, if there is one, and the tail
--     RetainsTail           a closure is asked on a list's first value and then on its tail, of which `new` stays: what that found and left
--     index_in              where the value at a place stands in a vector, reversed or not, by the index of the last
--     vector_at, at_key     the vector that entries, or a map, have at a key
--     tail_at               the tail there, if there is a map
--     value_of              the value that entries have at a key
--     SameBut, Sets         at each key but k new has what old has; so it is, and it has w at k (None: nothing)
--     IsLinked              each key with a tail has a first value, and there are as many first values as keys in the content
--     KeptLists             lists by key, and how many more keys there is room for; added: how many keys more a value at a key makes
--     Kept                  a flat index as its storage's contracts see it: its translator, what it holds, and how many held values were
--                           ever taken out, and the room
--     view_of               the view of it, by what its translator makes of a key
--     IsCounted             the content is a map of lists that are not empty, and `items` is how many values it has
use Rattle.std.specs.Prelude.{Box, ◌≡◌, ℕ, ◌-◌, Bool, true, false, nat_eq, if◌then◌else◌, List, [], ◌∷◌, length, Option, Some, None, is_some, unwrap_or}
use Rattle.std.specs.Option.{option_map}
use Rattle.std.specs.declared.cmp.Ordering.{Ordering}
use Rattle.std.specs.Ordering.{eq_by_cmp}
use Rattle.std.specs.Map.{lookup}
use Rattle.std.specs.declared.vec.Vec.{Vec}
use Rattle.key_index_flat.specs.Content.{Content, IsLawful, list_at, with_list, key_count, item_count}
use Rattle.key_index_flat.specs.Retention.{AsksInTurn}
use Rattle.key_index_map.specs.Table.{Entries}
use Rattle.key_index_flat.specs.declared.index.storage.tails.TailRetained.{TailRetained}
use Rattle.key_index_flat.specs.Values.{in_order}
use Rattle.key_index_flat.specs.View.{View}

abbrev pub list_of : {V : Type 0} → Option V → List V → List V
list_of None tail = []
list_of (Some head) tail = head ∷ tail

abbrev pub list_left : {V : Type 0} → Bool → V → Option V → List V → List V
list_left head_stays head next tail = list_of (if head_stays then Some head else next) tail

pub record RetainsTail {F V : Type 0} (ask : F → V → Bool → F → Type 0) (f : F) (head : V) (old new : List V)
    (r : TailRetained V) : Type 0 where
  pub asked : AsksInTurn ask f true (head ∷ old) (list_left r.head_stays head r.next new) r.stays
  pub had : r.had ≡ length old
  pub left : r.left ≡ length (list_left r.head_stays head r.next new)
  pub none : r.left ≡ 0 → new ≡ []

abbrev pub content_of : {K V : Type 0} → (K → K → Ordering) → List (K × V) → (K → List V) → Content K V
content_of cmp [] tail = []
content_of cmp (e ∷ es) tail = with_list cmp (content_of cmp es tail) e.0 (e.1 ∷ tail e.0)

abbrev pub index_in : Bool → ℕ → ℕ → ℕ
index_in reversed last place = if reversed then last - place else place

abbrev pub vector_at : {K V A : Type 0} → (K → K → Bool) → List (K × Vec V A) → K → List V
vector_at eq entries k = unwrap_or (option_map (λ v. v.items) (lookup (eq k) entries)) []

abbrev pub at_key : {K V A : Type 0} → (K → K → Bool) → Entries K (Vec V A) → K → List V
at_key eq map k = vector_at eq map.entries k

abbrev pub tail_at : {K V A B : Type 0} → Bool → (K → K → Bool) → Option (Box (Entries K (Vec V A)) B) → K → List V
tail_at reversed eq None k = []
tail_at reversed eq (Some m) k = in_order reversed (at_key eq m.value k)

abbrev pub value_of : {K V : Type 0} → (K → K → Ordering) → List (K × V) → K → Option V
value_of cmp entries k = lookup (eq_by_cmp cmp k) entries

abbrev pub SameBut : {K X : Type 0} → (K → K → Ordering) → (K → X) → (K → X) → K → Type 0
SameBut {K} cmp old new k = (q : K) → eq_by_cmp cmp q k ≡ false → new q ≡ old q

abbrev pub Sets : {K V : Type 0} → (K → K → Ordering) → List (K × V) → List (K × V) → K → Option V → Type 0
Sets cmp old new k w = (value_of cmp new k ≡ w) × SameBut cmp (value_of cmp old) (value_of cmp new) k

pub record IsLinked {K V : Type 0} (cmp : K → K → Ordering) (heads : List (K × V)) (tail : K → List V) : Type 0 where
  pub sized : length heads ≡ key_count (content_of cmp heads tail)
  pub headed : (q : K) → is_some (value_of cmp heads q) ≡ false → length (tail q) ≡ 0

pub record KeptLists (K V : Type 0) : Type 0 where
  pub content : Content K V
  pub spare : ℕ

abbrev pub added : {K V : Type 0} → (K → K → Ordering) → Content K V → K → ℕ
added cmp content k = if nat_eq (length (list_at cmp content k)) 0 then 1 else 0

pub record Kept (T K V : Type 0) : Type 0 where
  pub translator : T
  pub content : Content K V
  pub pruned : ℕ
  pub spare : ℕ

abbrev pub view_of : {T K V : Type 0} → (T → List ℕ → K) → Kept T K V → View K V
view_of translated s = record {
  content = s.content;
  pruned = s.pruned;
  slot = translated s.translator;
  admitted = λ _. true;
}

pub record IsCounted {K V : Type 0} (cmp : K → K → Ordering) (content : Content K V) (items : ℕ) : Type 0 where
  pub lawful : IsLawful cmp content
  pub counted : items ≡ item_count content
