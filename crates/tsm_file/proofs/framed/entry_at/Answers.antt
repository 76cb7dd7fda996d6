use Rattle.std.proofs.Common.{◌≡◌, ◌≢◌, ℕ, ℤ, zero, suc, ◌-◌, List, [], ◌∷◌, length, get_or, refl, arith}
use Rattle.tsm_format.specs.declared.entry.Entry.{Entry}
use Rattle.point_model.specs.Rows.{Row}
use Rattle.tsm_file.specs.ReadBlocks.{last_time}
use Rattle.tsm_file.specs.Written.{first_time}
use Rattle.tsm_file.proofs.framed.entry_at.Goals as goal

first_at : (points : List Row) (d : Row) → points ≢ [] → (get_or points 0 d).0 ≡ first_time points
first_at [] d some = absurd (some refl)
first_at (p ∷ ps) d some = refl

last_at : (p : Row) (ps : List Row) (n : ℕ) (d : Row) → n ≡ length ps → (get_or (p ∷ ps) n d).0 ≡ last_time p.0 ps
last_at p [] zero d e = refl
last_at p [] (suc n) d e = absurd (omega arith)
last_at p (q ∷ qs) zero d e = absurd (omega arith)
last_at p (q ∷ qs) (suc n) d e = last_at q qs n d (omega arith)

at_end : (points : List Row) (d : Row) → points ≢ [] → (get_or points (length points - 1) d).0 ≡ last_time (first_time points) points
at_end [] d some = absurd (some refl)
at_end (p ∷ ps) d some = last_at p ps (length (p ∷ ps) - 1) d (omega arith)

same : (min min' max max' : ℤ) (offset size : ℕ) → min ≡ min' → max ≡ max' → ◌≡◌ {A = Entry} (record { min = min; max = max; offset = offset; size = size }) (record { min = min'; max = max'; offset = offset; size = size })
same min min' max max' offset size a b = λ i. record { min = a i; max = b i; offset = offset; size = size }

pub returns : goal.returns
returns c = same _ _ _ _ c.args.offset c.args.size (first_at c.args.points.now c.index-points-0.result c.requires) (at_end c.args.points.now c.index-points-points.result c.requires)
