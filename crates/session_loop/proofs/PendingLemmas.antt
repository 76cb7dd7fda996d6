-- How a request begins, and what is kept of a BATCH.
use Rattle.std.proofs.Common.{◌≡◌, ◌<◌, ℕ, Bool, true, false, ◌==◌, List, [], ◌∷◌, ◌++◌, length, take, drop, refl, sym, ap, ◌∙◌, arith, inl, inr, Option, Some, None, if◌then◌else◌, codes}
use Rattle.std.specs.Option.{option_and_then}
use Rattle.std.specs.Str.{str_eq_ignore_ascii_case}
use Rattle.std.proofs.lemmas.Bool.{false≢true}
use Rattle.std.proofs.lemmas.List.{length-drop}
use Rattle.session_model.specs.Lines.{Request, Open, Cut, is_blank, begin, with_first}
use Rattle.session_model.specs.Lines.Request.{Batch}
use Rattle.session_model.specs.Words.{behind_word, number_in, batch_count}
use Rattle.session_loop.specs.declared.line.Line.{Line as Kept_line}
use Rattle.session_loop.specs.declared.pending.Pending.{Pending}
use Rattle.session_loop.specs.LineAsItComes.{Holds, Stands, StandsFor}
use Rattle.session_loop.specs.Shapes.{is_spaces}
use Rattle.session_loop.specs.Gathered.{Gathers}
use Rattle.session_loop.specs.Pendings.{HoldsBatch}
use Rattle.session_loop.proofs.KeepingLemmas.{stands_for, stands_whole, whole_tells}
use Rattle.session_loop.proofs.NumberLemmas.{number_none}

pub begin_blank : (before : List Request) (text : List ℕ) → is_blank text ≡ true → (let cut : Cut = record { requests = before; open_batch = None } in begin before text ≡ cut)
unfolding begin
begin_blank before text blank = let none : Cut = record { requests = before; open_batch = None } in ap (λ (t : Bool). if t then none else with_first before text (batch_count text)) blank

pub begin_some : (before : List Request) (text : List ℕ) (count : Option ℕ) → is_blank text ≡ false → batch_count text ≡ count → begin before text ≡ with_first before text count
unfolding begin
begin_some before text count some named =
    let none : Cut = record { requests = before; open_batch = None } in
    ap (λ (t : Bool). if t then none else with_first before text (batch_count text)) some ∙ ap (with_first before text) named

none_then : (t : Bool) (rest : List ℕ) → number_in 9 rest ≡ None → option_and_then (number_in 9) (if t then Some rest else None) ≡ None
none_then true rest none = none
none_then false rest none = refl

-- a long line begins no BATCH
pub long_no_batch : (text : List ℕ) → 65536 < length text → batch_count text ≡ None
unfolding behind_word
long_no_batch text long =
    let len = length-drop 6 text in
    none_then (str_eq_ignore_ascii_case (take 6 text) (codes "BATCH ")) (drop 6 text) (number_none 9 (drop 6 text) (λ numeral short. omega arith))

-- what a line is kept as names what the line names
pub counts_same : (kept text : List ℕ) → StandsFor 65536 kept text → batch_count kept ≡ batch_count text
counts_same kept text (inl same) = ap batch_count same
counts_same kept text (inr long) = long_no_batch kept long.0 ∙ sym (long_no_batch text long.1)

-- a line that is a BATCH's is kept whole
pub whole_batch : (kept text : List ℕ) (count : ℕ) → StandsFor 65536 kept text → batch_count kept ≡ Some count → batch_count text ≡ Some count
whole_batch kept text count stands named = sym (counts_same kept text stands) ∙ named

-- a line that the input ends stands as it came
pub stands_of : (line : Kept_line) (text : List ℕ) → Holds line text → Stands line text
stands_of line text holds = record {
  kept = stands_whole line.kept.items text (stands_for text line.kept.items holds.kept);
  blank = ap is_spaces holds.shape ∙ whole_tells text;
}

-- the BATCH that is kept
pub record TheBatch (pending : Pending) (batch : Option Open) : Type 0 where
  pub open_one : Open
  pub is : batch ≡ Some open_one
  pub room : length open_one.lines < open_one.count
  pub gathers : Gathers pending.batch open_one.count open_one.lines []

pub the_batch : (pending : Pending) (batch : Option Open) → pending.is_batch ≡ true → HoldsBatch pending batch → TheBatch pending batch
the_batch pending None is holds = absurd (false≢true (sym holds ∙ is))
the_batch pending (Some one) is holds = record { open_one = one; is = refl; room = holds.1; gathers = holds.2 }

pub no_batch : (pending : Pending) (batch : Option Open) → pending.is_batch ≡ false → HoldsBatch pending batch → batch ≡ None
no_batch pending None is holds = refl
no_batch pending (Some one) is holds = absurd (false≢true (sym is ∙ holds.0))

some_none : {X : Type 0} (x : X) → None ≡ Some x → ⊥
some_none x same = cc

batch_open : (whole : Bool) (before : List Request) (count : ℕ) (lines : List (List ℕ)) (one : Open) →
    (let cut : Cut = if whole then record { requests = before ++ Batch count lines [] ∷ []; open_batch = None } else record { requests = before; open_batch = Some (record { count = count; lines = lines }) } in
    cut.open_batch ≡ Some one → cut.requests ≡ before)
batch_open true before count lines one same = absurd (some_none one same)
batch_open false before count lines one same = refl

first_open : (before : List Request) (text : List ℕ) (count : Option ℕ) (one : Open) → (with_first before text count).open_batch ≡ Some one → (with_first before text count).requests ≡ before
first_open before text None one same = absurd (some_none one same)
first_open before text (Some count) one same = batch_open (length {A = List ℕ} [] == count) before count [] one same

begun_open : (blank : Bool) (before : List Request) (text : List ℕ) (count : Option ℕ) (one : Open) →
    (let cut : Cut = if blank then record { requests = before; open_batch = None } else with_first before text count in cut.open_batch ≡ Some one → cut.requests ≡ before)
begun_open true before text count one same = absurd (some_none one same)
begun_open false before text count one same = first_open before text count one same

-- a line that begins a BATCH which goes on is no request
pub begin_open : (before : List Request) (text : List ℕ) (one : Open) → (begin before text).open_batch ≡ Some one → (begin before text).requests ≡ before
unfolding begin
begin_open before text one same = begun_open (is_blank text) before text (batch_count text) one same
