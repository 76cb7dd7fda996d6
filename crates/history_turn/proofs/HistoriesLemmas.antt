-- The laws of beginnings.
use Rattle.std.proofs.Common.{◌≡◌, ◌≤◌, List, [], ◌∷◌, ◌++◌, length, sym, refl, ap, ◌∙◌, arith, append_assoc, append-nil, length-append}
use Rattle.history_turn.specs.Histories.{StartsWith}

module _ {A : Type 0} where
  pub starts_self : (xs : List A) → StartsWith xs xs
  starts_self xs = ([], sym (append-nil xs))

  pub starts_empty : (xs : List A) → StartsWith xs []
  starts_empty xs = (xs, refl)

  pub starts_longer : (ys xs zs : List A) → StartsWith ys xs → StartsWith (ys ++ zs) xs
  starts_longer ys xs zs s = (s.0 ++ zs, ap (λ l. l ++ zs) s.1 ∙ append_assoc xs s.0 zs)

  -- the beginning of a beginning
  pub starts_trans : (zs ys xs : List A) → StartsWith zs ys → StartsWith ys xs → StartsWith zs xs
  starts_trans zs ys xs s t = (t.0 ++ s.0, s.1 ∙ (ap (λ l. l ++ s.0) t.1 ∙ append_assoc xs t.0 s.0))

  -- a beginning is no longer than the list
  pub starts_length : (ys xs : List A) → StartsWith ys xs → length xs ≤ length ys
  starts_length ys xs s = omega (arith, ap length s.1, length-append xs s.0)

  same_head : (x y : A) (xs ys : List A) → x ∷ xs ≡ y ∷ ys → (x ≡ y) × (xs ≡ ys)
  same_head x y xs ys e = ((cc), (cc))

  -- of two beginnings of one list, the longer one begins with the other
  pub starts_shorter : (zs ys xs : List A) → StartsWith zs ys → StartsWith zs xs → length xs ≤ length ys → StartsWith ys xs
  starts_shorter zs ys [] s t few = starts_empty ys
  starts_shorter zs [] (x ∷ xs) s t few = absurd (omega arith)
  starts_shorter zs (y ∷ ys) (x ∷ xs) s t few =
      let both : y ∷ (ys ++ s.0) ≡ x ∷ (xs ++ t.0) = sym s.1 ∙ t.1 in
      let h = same_head y x _ _ both in
      let more = starts_shorter (ys ++ s.0) ys xs (s.0, refl) (t.0, h.1) (omega arith) in
      (more.0, cc (h.0, more.1))

  -- the longest beginning of a list is the list itself
  pub starts_whole : (ys xs : List A) → StartsWith ys xs → length ys ≤ length xs → ys ≡ xs
  starts_whole ys xs s long = nothing_more s.0 s.1 (omega (arith, ap length s.1, length-append xs s.0))
    where
      nothing_more : (more : List A) → ys ≡ xs ++ more → length more ≤ 0 → ys ≡ xs
      nothing_more [] e few = e ∙ append-nil xs
      nothing_more (x ∷ more) e few = absurd (omega arith)
