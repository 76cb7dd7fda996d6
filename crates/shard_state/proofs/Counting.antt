-- The next entry is counted behind the others.
use Rattle.std.proofs.Common.{◌≡◌, ℕ, ◌+◌, ◌<◌, ◌≤◌, List, [], ◌∷◌, ◌++◌, length, map, sym, ap, subst, ◌∙◌, arith, length-append}
use Rattle.std.specs.List.{range_with_len}
use Rattle.std.proofs.lemmas.List.{map-append}
use Rattle.point_model.specs.declared.entry.Entry.{Entry}
use Rattle.wal_store.specs.Replay.{Holds, Logged, past}
use Rattle.wal_store.specs.Segments.{last_number}
use Rattle.wal_store.proofs.ReplayLemmas.{counted_more, is_past, length_map, past_more}

pub holds_next : (floor : ℕ) (before : List Logged) (l : Logged) (entries : List Entry) → floor < l.number → l.number ≤ last_number → l.number ≡ floor + 1 + length entries → Holds floor before entries
    → Holds floor (before ++ l ∷ []) (entries ++ l.entry ∷ [])
holds_next floor before l entries high most next h = record {
  counted = subst (λ (p : List Logged). map (λ (x : Logged). x.number) p ≡ range_with_len (floor + 1) (length p)) (sym same) (counted_more floor (past floor before) l h.counted (next ∙ ap (λ (n : ℕ). floor + 1 + n) many));
  past_floor = ap (λ (es : List Entry). es ++ l.entry ∷ []) h.past_floor ∙ sym (map-append (λ (x : Logged). x.entry) (past floor before) (l ∷ [])) ∙ ap (λ (p : List Logged). map (λ (x : Logged). x.entry) p) (sym same);
  most = omega (arith, most, next, length-append entries (l.entry ∷ []));
}
  where
    many : length entries ≡ length (past floor before)
    many = ap length h.past_floor ∙ length_map (λ (x : Logged). x.entry) (past floor before)

    same : past floor (before ++ l ∷ []) ≡ past floor before ++ l ∷ []
    same = past_more floor before l (l ∷ []) (is_past floor l high)
