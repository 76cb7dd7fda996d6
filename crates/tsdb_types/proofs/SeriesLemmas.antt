use Rattle.std.proofs.Common.{◌≡◌, ℕ, Bool, true, cond, List, ◌∷◌, ap}
use Rattle.tsdb_types.specs.Series.{measurement_ends_at, measurement_text, is_key_with, is_series_of}

-- a byte that ends a measurement is spelled with its backslash
pub series_of-escaped : (byte : ℕ) (name key : List ℕ) → measurement_ends_at byte ≡ true → is_series_of (byte ∷ name) key ≡ is_key_with (92 ∷ byte ∷ measurement_text name) key
series_of-escaped byte name key is = ap (λ (t : Bool). is_key_with (cond t (92 ∷ byte ∷ measurement_text name) (byte ∷ measurement_text name)) key) is
