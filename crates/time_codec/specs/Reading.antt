-- What is read of a coding behind its first byte and its first time.
use Rattle.std.specs.Prelude.{◌≡◌, ℕ, ◌<◌, ℤ, pos, ◌+ℤ◌, List, [], ◌∷◌}
use Rattle.tsdb_types.specs.Moments.{IsMoment}
use Rattle.time_codec.specs.declared.form.Form.{Form}
use Rattle.time_codec.specs.Times.{AreTimes, differences, scaled, form_of, exponent_in, body_of}

-- the times are coded in this form and with this exponent, and behind the first of them by these bytes
pub record Follow (form : Form) (exponent : ℕ) (rest : List ℕ) (times : List ℤ) : Type 0 where
  pub chosen : form_of (differences times) ≡ form
  pub scale : exponent_in form (differences times) ≡ exponent
  pub spelled : rest ≡ body_of form (scaled exponent (differences times))

-- each time that is so far behind the one before is later, and a moment
abbrev pub Lead : ℤ → List ℕ → Type 0
Lead time [] = Unit {0}
Lead time (gap ∷ gaps) = (0 < gap) × IsMoment (time +ℤ pos gap) × Lead (time +ℤ pos gap) gaps

-- the times that are so far behind the one before
abbrev pub times_behind : ℤ → List ℕ → List ℤ
times_behind time [] = []
times_behind time (gap ∷ gaps) = (time +ℤ pos gap) ∷ times_behind (time +ℤ pos gap) gaps

-- times that begin with this one, each so far from the one before
pub record Begin (first : ℤ) (gaps : List ℕ) (times : List ℤ) : Type 0 where
  pub later : List ℤ
  pub starts : times ≡ first ∷ later
  pub apart : differences times ≡ gaps
  pub are : AreTimes times

-- times that begin with this one and are coded so behind it
pub record AreRead (form : Form) (exponent : ℕ) (first : ℤ) (rest : List ℕ) (times : List ℤ) : Type 0 where
  pub later : List ℤ
  pub starts : times ≡ first ∷ later
  pub are : AreTimes times
  pub follow : Follow form exponent rest times
