-- What holds of every text: it has one reading.
use Rattle.std.specs.Prelude.{◌≡◌, ℕ, ◌⊎◌, List, ℤ}
use Rattle.tsdb_types.specs.declared.point.Point.{Point}
use Rattle.line_protocol.specs.Batches.{At, Lines, IsFault}

-- a text is one batch at most
abbrev pub OneBatch : Type 0
OneBatch = (text : List ℕ) (moment : ℤ) (points others : List Point) → Lines text moment points → Lines text moment others → points ≡ others

-- a text has one fault at most
abbrev pub OneFault : Type 0
OneFault = (text : List ℕ) (moment : ℤ) (at other : At) → IsFault text moment at → IsFault text moment other → at ≡ other

-- no text is a batch and has a fault
abbrev pub NeverBoth : Type 0
NeverBoth = (text : List ℕ) (moment : ℤ) (points : List Point) (at : At) → Lines text moment points → IsFault text moment at → ⊥

-- each text is a batch or has a fault
abbrev pub Readable : Type 0
Readable = (text : List ℕ) (moment : ℤ) → ((points : List Point) × Lines text moment points) ⊎ ((at : At) × IsFault text moment at)
