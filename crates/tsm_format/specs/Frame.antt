-- Where the index of a file stands, and what is wrong with a file that has none.
use Rattle.std.specs.Prelude.{◌≡◌, ◌≢◌, ℕ, ◌+◌, ◌-◌, ◌<◌, ◌≤◌, ◌^◌, List, [], ◌∷◌, Result, Ok, Err, ◌⊎◌}
use Rattle.fixed_width.specs.Fields.{bytes_of_u64}
use Rattle.shard_disk.specs.declared.damage.Damage.{Damage}
use Rattle.shard_disk.specs.declared.damage.Why.TheVariants.{Head, Foot}

-- the mark and the version
abbrev pub header : List ℕ
header = 22 ∷ 209 ∷ 22 ∷ 209 ∷ 1 ∷ []

-- the least bytes of a file: the header and the footer
abbrev pub least_len : ℕ
least_len = 13

-- the footer gives a place from behind the header up to its own
pub record IsPlace (len : ℕ) (foot : List ℕ) (place : ℕ) : Type 0 where
  pub written : foot ≡ bytes_of_u64 place
  pub from : 5 ≤ place
  pub to : place + 8 ≤ len

-- What the frame of a file of this length with this number says, whose first five and last eight bytes are these: where
-- the index begins, or the damage. A short file comes first, at 0, then the header, at 0, then the footer, at its place.
abbrev pub FrameOf : ℕ → ℕ → List ℕ → List ℕ → Result ℕ Damage → Type 0
FrameOf file len head foot (Ok place) = (head ≡ header) × IsPlace len foot place
FrameOf file len head foot (Err damage) =
    ((head ≢ header) × (damage ≡ record { file = file; offset = 0; why = Head }))
    ⊎ ((head ≡ header) × ((place : ℕ) → place < 2 ^ 64 → ¬ IsPlace len foot place) × (damage ≡ record { file = file; offset = len - 8; why = Foot }))
