-- What a line of input says. A line is the bytes of one command, without the newline that ends it.
use Rattle.std.specs.Prelude.{ℕ, ◌+◌, ◌*◌, ◌%◌, ◌^◌, ◌==◌, ◌&&◌, nat_lt, Bool, List, [], ◌∷◌, length, if◌then◌else◌, Option, Some, None, option_and_then, option_map, codes}
use Rattle.std.specs.Borrow.{Bor}
use Rattle.std.specs.Char.{digit_value, is_ascii_digit, is_ascii_hexdigit}
use Rattle.std.specs.List.{slice_split, list_all}
use Rattle.std.specs.Str.{bytes_eq}
use Rattle.std.specs.Str.Parse.{digits_value}
use Rattle.key_index.specs.declared.program.line.Command.{Command}
use Rattle.key_index.specs.declared.program.line.Command.TheVariants.{Insert, Remove, Get, Counts}
use Rattle.key_index.specs.declared.program.line.ImmutableCommand.{ImmutableCommand}
use Rattle.key_index.specs.declared.program.line.ImmutableCommand.TheVariants as immutable
use Rattle.key_index.specs.declared.program.line.OrderedCommand.{OrderedCommand}
use Rattle.key_index.specs.declared.program.line.OrderedCommand.TheVariants.{Common, Next, Prev, First, Last}

-- the words of a line: its parts round each single space, 32, so that two in a row have an empty word between them
abbrev pub words_of : List ℕ → List (List ℕ)
words_of line = slice_split (λ b. b == 32) line

-- of some words found in a line, those in front of the first place where none was
abbrev pub words_in : Option (Bor (List ℕ)) × Option (Bor (List ℕ)) × Option (Bor (List ℕ)) → List (List ℕ)
words_in (None, _, _) = []
words_in (Some first, None, _) = first.now ∷ []
words_in (Some first, Some second, None) = first.now ∷ second.now ∷ []
words_in (Some first, Some second, Some third) = first.now ∷ second.now ∷ third.now ∷ []

-- the bytes that hexadecimal digits write, two digits a byte, the high one first
abbrev pub hex_bytes : List ℕ → List ℕ
hex_bytes (high ∷ low ∷ rest) = (16 * digit_value high + digit_value low) ∷ hex_bytes rest
hex_bytes _ = []

-- hexadecimal digits of either case, an even number of them and not none
abbrev pub is_hex : List ℕ → Bool
is_hex word = nat_lt 0 (length word) && (length word % 2 == 0) && list_all is_ascii_hexdigit word

-- the key that a word writes; a dash alone is the empty key
unfoldable pub key_of : List ℕ → Option (List ℕ)
key_of word =
    if bytes_eq word (codes "-") then Some []
    else (if is_hex word then Some (hex_bytes word) else None)

-- one decimal digit or more, of a number of 64 bits
abbrev pub is_number : List ℕ → Bool
is_number word = nat_lt 0 (length word) && list_all is_ascii_digit word && nat_lt (digits_value 10 word) (2 ^ 64)

-- the number that a word writes
unfoldable pub number_of : List ℕ → Option ℕ
number_of word = if is_number word then Some (digits_value 10 word) else None

-- the ? of the logic: the second step, if the first gave a value
infixl 10 ◌>>=◌
abbrev pub ◌>>=◌ : {A B : Type 0} → Option A → (A → Option B) → Option B
o >>= f = option_and_then f o

-- the number and the key of some words, a key and a number
abbrev pub number_and_key : List (List ℕ) → Option (ℕ × List ℕ)
number_and_key (hex ∷ number ∷ []) = do
  key ← key_of hex
  n ← number_of number
  Some (n, key)
number_and_key _ = None

-- a command whose words after the first are a key and a number
abbrev pub with_key_and_number : {C : Type 0} → (ℕ → C) → List (List ℕ) → Option (C × List ℕ)
with_key_and_number command words = option_map (λ said. (command said.0, said.1)) (number_and_key words)

-- the number of some words, which is all of them, and no key
abbrev pub number_alone : List (List ℕ) → Option (ℕ × List ℕ)
number_alone (number ∷ []) = do
  n ← number_of number
  Some (n, [])
number_alone _ = None

-- a command whose one word after the first is a number
abbrev pub with_number : {C : Type 0} → (ℕ → C) → List (List ℕ) → Option (C × List ℕ)
with_number command words = option_map (λ said. (command said.0, said.1)) (number_alone words)

-- a command whose one word after the first is a key
abbrev pub with_key : {C : Type 0} → C → List (List ℕ) → Option (C × List ℕ)
with_key command (hex ∷ []) = do
  key ← key_of hex
  Some (command, key)
with_key command _ = None

-- a command of one word
abbrev pub alone : {C : Type 0} → C → List (List ℕ) → Option (C × List ℕ)
alone command [] = Some (command, [])
alone command _ = None

-- the command of some words, with the key that it names, which is empty where it names none
abbrev pub command_of_words : List (List ℕ) → Option (Command × List ℕ)
command_of_words [] = None
command_of_words (name ∷ words) =
    if bytes_eq name (codes "insert") then with_key_and_number Insert words
    else (if bytes_eq name (codes "remove") then with_key Remove words
    else (if bytes_eq name (codes "get") then with_key Get words
    else (if bytes_eq name (codes "counts") then alone Counts words
    else None)))

-- the command that a line says, and its key
abbrev pub command_of : List ℕ → Option (Command × List ℕ)
command_of line = command_of_words (words_of line)

-- the same of an index whose keys are in order, which has commands more
abbrev pub ordered_command_of_words : List (List ℕ) → Option (OrderedCommand × List ℕ)
ordered_command_of_words [] = None
ordered_command_of_words (name ∷ words) =
    if bytes_eq name (codes "next") then with_key Next words
    else (if bytes_eq name (codes "prev") then with_key Prev words
    else (if bytes_eq name (codes "first") then alone First words
    else (if bytes_eq name (codes "last") then alone Last words
    else option_map (λ said. (Common said.0, said.1)) (command_of_words (name ∷ words)))))

abbrev pub ordered_command_of : List ℕ → Option (OrderedCommand × List ℕ)
ordered_command_of line = ordered_command_of_words (words_of line)

-- the same of an immutable index, which is told to prune and not to remove
abbrev pub immutable_command_of_words : List (List ℕ) → Option (ImmutableCommand × List ℕ)
immutable_command_of_words [] = None
immutable_command_of_words (name ∷ words) =
    if bytes_eq name (codes "prune") then with_number immutable.Prune words
    else (if bytes_eq name (codes "insert") then with_key_and_number immutable.Insert words
    else (if bytes_eq name (codes "get") then with_key immutable.Get words
    else (if bytes_eq name (codes "counts") then alone immutable.Counts words
    else None)))

abbrev pub immutable_command_of : List ℕ → Option (ImmutableCommand × List ℕ)
immutable_command_of line = immutable_command_of_words (words_of line)
