use Rattle.std.proofs.Common.{append-nil, ◌≡◌, ℕ, ◌+◌, Ok, Err, List, [], ◌∷◌, ◌++◌, ℤ, refl, sym, ap, subst, ◌∙◌, append_assoc}
use Rattle.tsdb_types.specs.declared.point.Point.{Point}
use Rattle.line_protocol.specs.declared.fault.LineCode.{LineCode}
use Rattle.line_protocol.specs.declared.fault.LineFault.{LineFault}
use Rattle.line_protocol.specs.declared.fault.Refusal.{Refusal}
use Rattle.line_protocol.specs.declared.fault.Refusal.TheVariants as refusal
use Rattle.line_protocol.specs.Readings.{IsRefusal}
use Rattle.line_protocol.specs.declared.fault.LineFault.TheVariants.{Line}
use Rattle.line_protocol.specs.Batches.{At, Points, FaultGives, fault_of, lines_of, points_before, LinesAre}
use Rattle.line_protocol.specs.Kinds.{Seen}
use Rattle.line_protocol.specs.Lines.{AnyLineIs}
use Rattle.line_protocol.specs.Parts.{line_front, line_rest, lines_behind, trimmed}
use Rattle.line_protocol.proofs.PartLemmas.{lines-first}

-- a code and a line
abbrev pub same : LineCode → ℕ → At
same code line = record { code = code; line = line }

pub points_before-nil : (result : Points) → points_before [] result ≡ result
points_before-nil (Ok points) = refl
points_before-nil (Err at) = refl

pub points_before-both : (first second : List Point) (result : Points) → points_before first (points_before second result) ≡ points_before (first ++ second) result
points_before-both first second (Ok points) = ap (λ (ps : List Point). Ok ps) (sym (append_assoc first second points))
points_before-both first second (Err at) = refl

-- a line that is read, before lines that are read
pub lines-read : (moment : ℤ) (text line behind : List ℕ) (number : ℕ) (seen after : Seen) (added : List Point) (others : Points)
    → lines_of text ≡ line ∷ lines_of behind
    → AnyLineIs seen moment (trimmed line) (Ok (record { points = added; seen = after }))
    → LinesAre moment (lines_of behind) (number + 1) after others
    → LinesAre moment (lines_of text) number seen (points_before added others)
lines-read moment text line behind number seen after added others e is are =
    subst (λ (ls : List (List ℕ)). LinesAre moment ls number seen (points_before added others)) (sym e)
    (Ok (record { points = added; seen = after }), is, (others, are, refl))

-- the last line
pub last-read : (moment : ℤ) (text line : List ℕ) (number : ℕ) (seen after : Seen) (added : List Point)
    → lines_of text ≡ line ∷ []
    → AnyLineIs seen moment (trimmed line) (Ok (record { points = added; seen = after }))
    → LinesAre moment (lines_of text) number seen (points_before added (Ok []))
last-read moment text line number seen after added e is =
    subst (λ (ls : List (List ℕ)). LinesAre moment ls number seen (points_before added (Ok []))) (sym e)
    (Ok (record { points = added; seen = after }), is, (Ok [], refl, refl))

-- a line with a fault, whatever stands behind it
pub line-refused : (moment : ℤ) (text line : List ℕ) (lines : List (List ℕ)) (number : ℕ) (seen : Seen) (code : LineCode)
    → lines_of text ≡ line ∷ lines
    → AnyLineIs seen moment (trimmed line) (Err code)
    → LinesAre moment (lines_of text) number seen (Err (record { code = code; line = number }))
line-refused moment text line lines number seen code e is =
    subst (λ (ls : List (List ℕ)). LinesAre moment ls number seen (Err (record { code = code; line = number }))) (sym e) (Err code, is, refl)

-- the first line of a text, and the lines behind its newline
pub lines-cut : (text line rest : List ℕ) → line ≡ line_front text → rest ≡ line_rest text → lines_of text ≡ line ∷ lines_behind rest
lines-cut text line rest l r =
    lines-first text
    ∙ ap (λ (t : List ℕ). t ∷ lines_behind (line_rest text)) (sym l)
    ∙ ap (λ (t : List ℕ). line ∷ lines_behind t) (sym r)

pub points_before-end : (first second : List Point) → points_before first (points_before second (Ok [])) ≡ Ok (first ++ second)
points_before-end first second = points_before-both first second (Ok []) ∙ ap (λ (ps : List Point). Ok ps) (append-nil (first ++ second))

-- two faults of a line are one
abbrev pub same_fault : LineFault → LineFault → Type 0
same_fault fault other = fault ≡ other

pub same-at : (code other : LineCode) (line number : ℕ) → same_fault (Line code line) (Line other number) → (code ≡ other) × (line ≡ number)
same-at code other line number e = (cc, cc)

pub at-of : (code other : LineCode) (line number : ℕ) → code ≡ other → line ≡ number → same code line ≡ same other number
at-of code other line number c l = ap (λ (k : LineCode). same k line) c ∙ ap (λ (n : ℕ). same other n) l

-- a fault with a line is told as that
pub fault-told : (fault : LineFault) (code : LineCode) (line : ℕ) (Holds : Points → Type 0) → fault ≡ Line code line → FaultGives fault Holds → Holds (Err (same code line))
fault-told fault code line Holds e is = subst (λ (f : LineFault). FaultGives f Holds) e is

-- a line that is refused gives the fault of its text
pub fault-lines : (found : Refusal) (line : ℕ) (P : LineCode → Type 0) (Holds : Points → Type 0) → ((code : LineCode) → P code → Holds (Err (same code line))) → IsRefusal found P → FaultGives (fault_of found line) Holds
fault-lines (refusal.Code code) line P Holds h is = h code is
fault-lines refusal.Memory line P Holds h is = tt
