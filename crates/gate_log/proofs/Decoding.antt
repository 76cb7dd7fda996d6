-- One record more that is read.
use Rattle.std.proofs.Common.{◌≡◌, ℕ, ◌+◌, List, [], ◌∷◌, ◌++◌, length, take, ◌^◌, ◌<◌, ◌≤◌, sym, ◌∙◌, ap, subst, length-append, Vec}
use Rattle.std.proofs.lemmas.List.{map-append, take_all}
use Rattle.std.specs.declared.alloc.Global.{Global}
use Rattle.gate_log.specs.Damage.{bodies}
use Rattle.gate_log.specs.Records.{AllFit, framed, spelled}
use Rattle.gate_log.proofs.Bytes.{spelled-push}

-- all of a list, taken from it
pub taken_whole : (n : ℕ) (xs ys : List ℕ) → take n xs ≡ ys → length xs ≤ n → xs ≡ ys
taken_whole n xs ys taken long = sym (take_all n xs long) ∙ taken

fit_push : (records : List (List ℕ)) (body : List ℕ) → AllFit records → length body < 2 ^ 32 → AllFit (records ++ body ∷ [])
fit_push [] body fit fits = (fits, tt)
fit_push (first ∷ records) body fit fits = (fit.0, fit_push records body fit.1 fits)

pub fit_more : (records records' : List (Vec ℕ Global)) (copy : Vec ℕ Global) (body : List ℕ) → records' ≡ records ++ copy ∷ [] → copy.items ≡ body → AllFit (bodies records) → length body < 2 ^ 32 → AllFit (bodies records')
fit_more records records' copy body pushed copied fit fits =
    let all : bodies records' ≡ bodies records ++ body ∷ [] =
    ap (λ (l : List (Vec ℕ Global)). bodies l) pushed ∙ map-append (λ (v : Vec ℕ Global). v.items) records (copy ∷ []) ∙ ap (λ (b : List ℕ). bodies records ++ b ∷ []) copied in
    subst (λ (l : List (List ℕ)). AllFit l) (sym all) (fit_push (bodies records) body fit fits)

module _ (records records' : List (Vec ℕ Global)) (copy : Vec ℕ Global) (bytes rest behind after body : List ℕ) where
  pub one_more : bytes ≡ spelled (bodies records) ++ rest → rest ≡ 1 ∷ behind → behind ≡ framed body ++ after → records' ≡ records ++ copy ∷ [] → copy.items ≡ body → bytes ≡ spelled (bodies records') ++ after
  one_more read gate found pushed copied =
      let all : bodies records' ≡ bodies records ++ body ∷ [] =
      ap (λ (l : List (Vec ℕ Global)). bodies l) pushed ∙ map-append (λ (v : Vec ℕ Global). v.items) records (copy ∷ []) ∙ ap (λ (b : List ℕ). bodies records ++ b ∷ []) copied in
      read ∙ ap (λ (l : List ℕ). spelled (bodies records) ++ l) (gate ∙ ap (λ (l : List ℕ). 1 ∷ l) found)
      ∙ sym (spelled-push (bodies records) body after) ∙ ap (λ (l : List (List ℕ)). spelled l ++ after) (sym all)

  pub sizes : bytes ≡ spelled (bodies records') ++ after → length (spelled (bodies records')) + length after ≡ length bytes
  sizes read = sym (ap length read ∙ length-append (spelled (bodies records')) after)
