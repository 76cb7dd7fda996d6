-- What taking an item from the front of bytes gave.
use Rattle.std.specs.Prelude.{◌≡◌, ◌≢◌, ℕ, List, ◌++◌, Result, Ok, Err, Option, None, Some, ⊤}
use Rattle.std.specs.declared.cmp.Ordering.{Ordering}
use Rattle.std.specs.declared.cmp.Ordering.TheVariants.{Less}
use Rattle.index_file.specs.declared.stop.Stop.{Stop}
use Rattle.index_file.specs.declared.stop.Stop.TheVariants.{Wrong, Memory}

-- the key comes behind the last one, where there is one
abbrev pub IsBehind : {K : Type 0} → (K → K → Ordering) → Option K → K → Type 0
IsBehind cmp None key = ⊤
IsBehind cmp (Some last) key = cmp last key ≡ Less

-- The first item was taken from the old bytes and left the new ones, and it is good; or no good item stands there.
abbrev pub Takes : {X : Type 0} → (X → Type 0) → (X → List ℕ) → Result X Stop → List ℕ → List ℕ → Type 0
Takes IsGood item_bytes (Ok item) old new = IsGood item × (old ≡ item_bytes item ++ new)
Takes {X} IsGood item_bytes (Err Wrong) old new = (item : X) (more : List ℕ) → IsGood item → old ≢ item_bytes item ++ more
Takes IsGood item_bytes (Err Memory) old new = ⊤
