-- What a refused adoption leaves of a disk that may come into doubt.
use Rattle.std.specs.Prelude.{◌≡◌, ℕ, ◌+◌, ◌-◌, ◌^◌, ◌<◌, Bool, false, IsTrue}

-- The disk is in doubt, and where it wasn't before, the number that was tried isn't the next one any more. Where no number
-- was left, none was tried.
pub record SpendsNumber (doubtful doubtful' : Bool) (next next' : ℕ) : Type 0 where
  pub stays : IsTrue doubtful → IsTrue doubtful'
  pub in_doubt : next < 2 ^ 32 - 1 → IsTrue doubtful'
  pub spent : next < 2 ^ 32 - 1 → doubtful ≡ false → next' ≡ next + 1
