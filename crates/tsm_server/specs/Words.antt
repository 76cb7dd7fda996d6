-- Which words are a command?
use Rattle.std.specs.Prelude.{◌≡◌, ◌≢◌, ◌⊎◌, ◌<◌, ◌≤◌, ℕ, List, [], ◌∷◌, map, length, slice_index, codes}
use Rattle.std.specs.List.{AllByRecursion}
use Rattle.std.specs.String.{string_bytes}
use Rattle.session_io.specs.declared.client.Word.{Word}

-- neither empty nor an option: it does not begin with a minus sign
pub record IsPlain (word : List ℕ) : Type 0 where
  pub not_empty : 0 < length word
  pub no_option : slice_index word 0 ≢ 45

-- the words ask for one client over a map in memory, with this input and this output
pub record AsksMem (words : List Word) (input output : List ℕ) : Type 0 where
  pub spelled : map (λ (word : Word). string_bytes word.text) words ≡ codes "mem" ∷ input ∷ output ∷ []
  pub plain_input : IsPlain input
  pub plain_output : IsPlain output

-- the words ask for one client over a directory, on the standard streams
pub record AsksShell (words : List Word) (path : List ℕ) : Type 0 where
  pub spelled : map (λ (word : Word). string_bytes word.text) words ≡ codes "shell" ∷ path ∷ []
  pub plain : IsPlain path

-- what a client is opened by: the names of its input and of its output
pub record Names : Type 0 where
  pub input : List ℕ
  pub output : List ℕ

-- the words that give these names, one pair after another
abbrev pub texts_of : List Names → List (List ℕ)
texts_of [] = []
texts_of (names ∷ more) = names.input ∷ names.output ∷ texts_of more

-- the names that words give, two by two
abbrev pub names_in : List Word → List Names
names_in [] = []
names_in (word ∷ []) = []
names_in (input ∷ output ∷ words) = record { input = string_bytes input.text; output = string_bytes output.text } ∷ names_in words

-- the words ask for these clients, one to eight, over a directory
pub record AsksRun (words : List Word) (path : List ℕ) (clients : List Names) : Type 0 where
  pub spelled : map (λ (word : Word). string_bytes word.text) words ≡ codes "run" ∷ path ∷ texts_of clients
  pub some : 1 ≤ length clients
  pub few : length clients ≤ 8
  pub plain : AllByRecursion IsPlain (path ∷ texts_of clients)

-- both standard streams
abbrev pub standard : Names
standard = record { input = codes "-"; output = codes "-" }

-- The words ask for these clients over the directory of this path: one on the standard streams, or those that are named.
abbrev pub AsksDirectory : List Word → List ℕ → List Names → Type 0
AsksDirectory words path clients = (AsksShell words path × (clients ≡ standard ∷ [])) ⊎ AsksRun words path clients

abbrev pub IsMem : List Word → Type 0
IsMem words = (input : List ℕ) × (output : List ℕ) × AsksMem words input output

abbrev pub IsShell : List Word → Type 0
IsShell words = (path : List ℕ) × AsksShell words path

abbrev pub IsRun : List Word → Type 0
IsRun words = (path : List ℕ) × (clients : List Names) × AsksRun words path clients

-- the words are in the command set
abbrev pub IsCommand : List Word → Type 0
IsCommand words = IsMem words ⊎ (IsShell words ⊎ IsRun words)
