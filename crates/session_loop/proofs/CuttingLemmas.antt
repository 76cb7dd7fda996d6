-- How the parts, the requests and the open BATCH of some bytes grow.
use Rattle.std.proofs.Common.{◌≡◌, ◌≢◌, ℕ, Bool, true, false, not, ◌==◌, List, [], ◌∷◌, ◌++◌, length, fold, refl, sym, ap, ◌∙◌, subst, append_assoc, cond, inl, inr, Option, Some, None, if◌then◌else◌}
use Rattle.std.specs.List.{slice_split, onto_first, list_all}
use Rattle.std.specs.Str.Lines.{strip_carriage_return}
use Rattle.std.proofs.lemmas.Bool.Decides.{eqb_tells}
use Rattle.std.proofs.lemmas.List.{append-nil}
use Rattle.session_model.specs.Words.{batch_count}
use Rattle.session_model.specs.Lines.{Request, Open, Cut, is_blank, parts, ended_parts, last_part, with_first, begin, next_line, with_line, nothing_cut, cut_of, closed, last_line, requests, ended_requests}
use Rattle.session_model.specs.Lines.Request.{Line, Batch}
use Rattle.session_model.specs.Explained.{complete_requests}
use Rattle.session_model.specs.Readable.{Lacks}
use Rattle.session_model.proofs.TextLemmas.{and_parts}

-- the parts with a further byte, which is no newline: the last part grows
abbrev pub grown : ℕ → List (List ℕ) → List (List ℕ)
grown byte [] = []
grown byte (last ∷ []) = (last ++ byte ∷ []) ∷ []
grown byte (part ∷ next ∷ more) = part ∷ grown byte (next ∷ more)

pub grown_last : (byte : ℕ) (lines : List (List ℕ)) (last : List ℕ) → grown byte (lines ++ last ∷ []) ≡ lines ++ (last ++ byte ∷ []) ∷ []
grown_last byte [] last = refl
grown_last byte (line ∷ []) last = refl
grown_last byte (line ∷ next ∷ lines) last = ap (λ (l : List (List ℕ)). line ∷ l) (grown_last byte (next ∷ lines) last)

-- there is a part
pub record SomePart (all : List (List ℕ)) : Type 0 where
  pub part : List ℕ
  pub more : List (List ℕ)
  pub is : all ≡ part ∷ more

onto_some : (x : ℕ) (ys : List (List ℕ)) → SomePart (onto_first x ys)
onto_some x [] = record { part = x ∷ []; more = []; is = refl }
onto_some x (part ∷ more) = record { part = x ∷ part; more = more; is = refl }

cond_some : (t : Bool) (x : ℕ) (ys : List (List ℕ)) → SomePart (cond t ([] ∷ ys) (onto_first x ys))
cond_some true x ys = record { part = []; more = ys; is = refl }
cond_some false x ys = onto_some x ys

pub some_part : (p : ℕ → Bool) (bytes : List ℕ) → SomePart (slice_split p bytes)
some_part p [] = record { part = []; more = []; is = refl }
some_part p (b ∷ bytes) = cond_some (p b) b (slice_split p bytes)

grown_front : (byte x : ℕ) (t : Bool) (part : List ℕ) (more : List (List ℕ)) →
    cond t ([] ∷ grown byte (part ∷ more)) (onto_first x (grown byte (part ∷ more))) ≡ grown byte (cond t ([] ∷ part ∷ more) (onto_first x (part ∷ more)))
grown_front byte x true part more = refl
grown_front byte x false part [] = refl
grown_front byte x false part (next ∷ more) = refl

split_same : (p : ℕ → Bool) (byte : ℕ) → p byte ≡ false → (bytes : List ℕ) → slice_split p (bytes ++ byte ∷ []) ≡ grown byte (slice_split p bytes)
split_same p byte fails [] = ap (λ (t : Bool). cond t ([] ∷ [] ∷ []) ((byte ∷ []) ∷ [])) fails
split_same p byte fails (b ∷ bytes) =
    let some = some_part p bytes in
    let before : slice_split p bytes ≡ some.part ∷ some.more = some.is in
    ap (λ (l : List (List ℕ)). cond (p b) ([] ∷ l) (onto_first b l)) (split_same p byte fails bytes ∙ ap (grown byte) before)
    ∙ grown_front byte b (p b) some.part some.more
    ∙ ap (λ (l : List (List ℕ)). grown byte (cond (p b) ([] ∷ l) (onto_first b l))) (sym before)

next_front : (x : ℕ) (t : Bool) (part : List ℕ) (more : List (List ℕ)) →
    cond t ([] ∷ part ∷ (more ++ [] ∷ [])) (onto_first x (part ∷ (more ++ [] ∷ []))) ≡ cond t ([] ∷ part ∷ more) (onto_first x (part ∷ more)) ++ [] ∷ []
next_front x true part more = refl
next_front x false part more = refl

split_next : (p : ℕ → Bool) (byte : ℕ) → p byte ≡ true → (bytes : List ℕ) → slice_split p (bytes ++ byte ∷ []) ≡ slice_split p bytes ++ [] ∷ []
split_next p byte passes [] = ap (λ (t : Bool). cond t ([] ∷ [] ∷ []) ((byte ∷ []) ∷ [])) passes
split_next p byte passes (b ∷ bytes) =
    let some = some_part p bytes in
    let before : slice_split p bytes ≡ some.part ∷ some.more = some.is in
    ap (λ (l : List (List ℕ)). cond (p b) ([] ∷ l) (onto_first b l)) (split_next p byte passes bytes ∙ ap (λ (l : List (List ℕ)). l ++ [] ∷ []) before)
    ∙ next_front b (p b) some.part some.more
    ∙ ap (λ (l : List (List ℕ)). cond (p b) ([] ∷ l) (onto_first b l) ++ [] ∷ []) (sym before)

is_no_newline : (byte : ℕ) → byte ≢ 10 → (byte == 10) ≡ false
is_no_newline byte other = elim (eqb_tells byte 10) [ inl same ↦ absurd (other same.1) | inr differs ↦ differs.0 ]

-- a byte that is no newline grows the last part
pub parts_same : (byte : ℕ) (bytes : List ℕ) (lines : List (List ℕ)) (last : List ℕ) → byte ≢ 10
    → parts bytes ≡ lines ++ last ∷ [] → parts (bytes ++ byte ∷ []) ≡ lines ++ (last ++ byte ∷ []) ∷ []
parts_same byte bytes lines last other cut =
    split_same (λ b. b == 10) byte (is_no_newline byte other) bytes ∙ ap (grown byte) cut ∙ grown_last byte lines last

-- a newline begins a part
pub parts_next : (bytes : List ℕ) (lines : List (List ℕ)) (last : List ℕ)
    → parts bytes ≡ lines ++ last ∷ [] → parts (bytes ++ 10 ∷ []) ≡ (lines ++ last ∷ []) ++ [] ∷ []
parts_next bytes lines last cut =
    split_next (λ b. b == 10) 10 refl bytes ∙ ap (λ (l : List (List ℕ)). l ++ [] ∷ []) cut

-- a byte that isn't another one
other_than : (b byte : ℕ) → not (b == byte) ≡ true → b ≢ byte
other_than b byte differs same = elim (eqb_tells b byte) [ inl equal ↦ cc (ap not equal.0) | inr other ↦ other.1 same ]

-- bytes without a newline grow the last part
pub parts_longer : (more bytes : List ℕ) (lines : List (List ℕ)) (last : List ℕ) → Lacks 10 more
    → parts bytes ≡ lines ++ last ∷ [] → parts (bytes ++ more) ≡ lines ++ (last ++ more) ∷ []
parts_longer [] bytes lines last lacks cut =
    ap parts (append-nil bytes) ∙ cut ∙ ap (λ (l : List ℕ). lines ++ l ∷ []) (sym (append-nil last))
parts_longer (b ∷ more) bytes lines last lacks cut =
    let both = and_parts (not (b == 10)) (list_all (λ x. not (x == 10)) more) lacks in
    ap parts (sym (append_assoc bytes (b ∷ []) more))
    ∙ parts_longer more (bytes ++ b ∷ []) lines (last ++ b ∷ []) both.1 (parts_same b bytes lines last (other_than b 10 both.0) cut)
    ∙ ap (λ (l : List ℕ). lines ++ l ∷ []) (append_assoc last (b ∷ []) more)

-- these and a newline behind them begin a part
pub parts_line : (more bytes : List ℕ) (lines : List (List ℕ)) (last : List ℕ) → Lacks 10 more
    → parts bytes ≡ lines ++ last ∷ [] → parts (bytes ++ (more ++ 10 ∷ [])) ≡ (lines ++ (last ++ more) ∷ []) ++ [] ∷ []
parts_line more bytes lines last lacks cut =
    ap parts (sym (append_assoc bytes more (10 ∷ []))) ∙ parts_next (bytes ++ more) lines (last ++ more) (parts_longer more bytes lines last lacks cut)

-- The last part, and those before it.

ended_parts_are : (lines : List (List ℕ)) (last : List ℕ) → ended_parts (lines ++ last ∷ []) ≡ lines
ended_parts_are [] last = refl
ended_parts_are (line ∷ []) last = refl
ended_parts_are (line ∷ next ∷ lines) last = ap (λ (l : List (List ℕ)). line ∷ l) (ended_parts_are (next ∷ lines) last)

last_part_is : (lines : List (List ℕ)) (last : List ℕ) → last_part (lines ++ last ∷ []) ≡ last
last_part_is [] last = refl
last_part_is (line ∷ []) last = refl
last_part_is (line ∷ next ∷ lines) last = last_part_is (next ∷ lines) last

pub last_is : (bytes : List ℕ) (lines : List (List ℕ)) (last : List ℕ) → parts bytes ≡ lines ++ last ∷ [] → last_part (parts bytes) ≡ last
last_is bytes lines last cut = ap last_part cut ∙ last_part_is lines last

-- bytes are ended lines and a last part
pub record Parts (bytes : List ℕ) : Type 0 where
  pub lines : List (List ℕ)
  pub last : List ℕ
  pub is : parts bytes ≡ lines ++ last ∷ []

record LastOf (part : List ℕ) (more : List (List ℕ)) : Type 0 where
  lines : List (List ℕ)
  last : List ℕ
  is : (part ∷ more) ≡ lines ++ last ∷ []

last_of : (part : List ℕ) (more : List (List ℕ)) → LastOf part more
last_of part [] = record { lines = []; last = part; is = refl }
last_of part (next ∷ more) =
    let rest = last_of next more in
    record { lines = part ∷ rest.lines; last = rest.last; is = ap (λ (l : List (List ℕ)). part ∷ l) rest.is }

pub some_cut : (bytes : List ℕ) → Parts bytes
some_cut bytes =
    let some = some_part (λ b. b == 10) bytes in
    let last = last_of some.part some.more in
    record { lines = last.lines; last = last.last; is = some.is ∙ last.is }

-- What the lines that have ended are cut into.

fold_more : (cut : Cut) (lines more : List (List ℕ)) → fold with_line cut (lines ++ more) ≡ fold with_line (fold with_line cut lines) more
fold_more cut [] more = refl
fold_more cut (line ∷ lines) more = fold_more (with_line cut line) lines more

cut_is : (bytes : List ℕ) (lines : List (List ℕ)) (last : List ℕ) → parts bytes ≡ lines ++ last ∷ [] → cut_of bytes ≡ fold with_line nothing_cut lines
cut_is bytes lines last cut = ap (λ (l : List (List ℕ)). fold with_line nothing_cut (ended_parts l)) cut ∙ ap (fold with_line nothing_cut) (ended_parts_are lines last)

-- bytes without a newline end no line
pub cut_longer : (more bytes : List ℕ) (lines : List (List ℕ)) (last : List ℕ) → Lacks 10 more → parts bytes ≡ lines ++ last ∷ [] → cut_of (bytes ++ more) ≡ cut_of bytes
cut_longer more bytes lines last lacks cut =
    cut_is (bytes ++ more) lines (last ++ more) (parts_longer more bytes lines last lacks cut) ∙ sym (cut_is bytes lines last cut)

-- these and a newline behind them end the last part
pub cut_line : (more bytes : List ℕ) (lines : List (List ℕ)) (last : List ℕ) → Lacks 10 more
    → parts bytes ≡ lines ++ last ∷ [] → cut_of (bytes ++ (more ++ 10 ∷ [])) ≡ with_line (cut_of bytes) (last ++ more)
cut_line more bytes lines last lacks cut =
    cut_is (bytes ++ (more ++ 10 ∷ [])) (lines ++ (last ++ more) ∷ []) [] (parts_line more bytes lines last lacks cut)
    ∙ fold_more nothing_cut lines ((last ++ more) ∷ [])
    ∙ ap (λ (c : Cut). with_line c (last ++ more)) (sym (cut_is bytes lines last cut))

-- at the end of the input the last part ends
pub requests_are : (bytes : List ℕ) (lines : List (List ℕ)) (last : List ℕ) → parts bytes ≡ lines ++ last ∷ []
    → requests bytes ≡ last_line (cut_of bytes).requests (cut_of bytes).open_batch last
requests_are bytes lines last cut = ap (last_line (cut_of bytes).requests (cut_of bytes).open_batch) (last_is bytes lines last cut)

-- The requests grow.

-- the first requests are those of the front
pub record More (front all : List Request) : Type 0 where
  pub more : List Request
  pub is : all ≡ front ++ more

no_more : (these : List Request) → More these these
no_more these = record { more = []; is = sym (append-nil these) }

pub more_behind : (a b c : List Request) → More a b → More b c → More a c
more_behind a b c first second = record {
  more = first.more ++ second.more;
  is = second.is ∙ ap (λ (l : List Request). l ++ second.more) first.is ∙ append_assoc a first.more second.more;
}

whole_more : (whole : Bool) (these : List Request) (count : ℕ) (lines : List (List ℕ)) →
    (let cut : Cut = if whole then record { requests = these ++ Batch count lines [] ∷ []; open_batch = None } else record { requests = these; open_batch = Some (record { count = count; lines = lines }) } in
    More these cut.requests)
whole_more true these count lines = record { more = Batch count lines [] ∷ []; is = refl }
whole_more false these count lines = no_more these

first_more : (these : List Request) (line : List ℕ) (count : Option ℕ) → More these (with_first these line count).requests
first_more these line (Some count) = whole_more (length {A = List ℕ} [] == count) these count []
first_more these line None = record { more = Line line ∷ []; is = refl }

blank_more : (blank : Bool) (these : List Request) (line : List ℕ) →
    (let cut : Cut = if blank then record { requests = these; open_batch = None } else with_first these line (batch_count line) in More these cut.requests)
blank_more true these line = no_more these
blank_more false these line = first_more these line (batch_count line)

begin_more : (these : List Request) (line : List ℕ) → More these (begin these line).requests
unfolding begin
begin_more these line = blank_more (is_blank line) these line

next_more : (these : List Request) (batch : Option Open) (part : List ℕ) → More these (next_line these batch part).requests
next_more these None part = begin_more these (strip_carriage_return part)
next_more these (Some batch) part = whole_more (length (batch.lines ++ part ∷ []) == batch.count) these batch.count (batch.lines ++ part ∷ [])

closed_more : (these : List Request) (batch : Option Open) (rest : List ℕ) → More these (closed these batch rest)
closed_more these None rest = no_more these
closed_more these (Some batch) rest = record { more = Batch batch.count batch.lines rest ∷ []; is = refl }

last_more : (these : List Request) (batch : Option Open) (part : List ℕ) → More these (last_line these batch part)
last_more these None part =
    let cut = begin these part in
    more_behind these cut.requests (closed cut.requests cut.open_batch []) (begin_more these part) (closed_more cut.requests cut.open_batch [])
last_more these (Some batch) part = closed_more these (Some batch) part

ended_more : (bytes : List ℕ) (byte : ℕ) → More (ended_requests bytes) (ended_requests (bytes ++ byte ∷ []))
ended_more bytes byte =
    let cut = some_cut bytes in
    elim (eqb_tells byte 10) [
      | inl same ↦ (
          let here = cut_line [] bytes cut.lines cut.last refl cut.is in
          let next = next_more (cut_of bytes).requests (cut_of bytes).open_batch (cut.last ++ []) in
          record {
            more = next.more;
            is = ap (λ (b : ℕ). ended_requests (bytes ++ b ∷ [])) same.1 ∙ ap (λ (c : Cut). c.requests) here ∙ next.is;
          }
          )
      | inr other ↦ record {
        more = [];
        is = ap (λ (c : Cut). c.requests) (cut_is (bytes ++ byte ∷ []) cut.lines (cut.last ++ byte ∷ []) (parts_same byte bytes cut.lines cut.last other.1 cut.is) ∙ sym (cut_is bytes cut.lines cut.last cut.is))
            ∙ sym (append-nil (ended_requests bytes));
      }
    ]

more_ended : (bytes further : List ℕ) → More (ended_requests bytes) (ended_requests (bytes ++ further))
more_ended bytes [] = record { more = []; is = ap ended_requests (append-nil bytes) ∙ sym (append-nil (ended_requests bytes)) }
more_ended bytes (byte ∷ further) =
    subst (λ (l : List ℕ). More (ended_requests bytes) (ended_requests l)) (append_assoc bytes (byte ∷ []) further)
    (more_behind (ended_requests bytes) (ended_requests (bytes ++ byte ∷ [])) (ended_requests ((bytes ++ byte ∷ []) ++ further))
    (ended_more bytes byte) (more_ended (bytes ++ byte ∷ []) further))

more_requests : (bytes further : List ℕ) → More (ended_requests bytes) (requests (bytes ++ further))
more_requests bytes further =
    let whole = bytes ++ further in
    more_behind (ended_requests bytes) (ended_requests whole) (requests whole) (more_ended bytes further)
    (last_more (cut_of whole).requests (cut_of whole).open_batch (last_part (parts whole)))

-- the requests that some bytes end are the first of those of longer ones
pub more_complete : (ended : Bool) (bytes further : List ℕ) → More (ended_requests bytes) (complete_requests ended (bytes ++ further))
more_complete true bytes further = more_requests bytes further
more_complete false bytes further = more_ended bytes further
