use Rattle.std.proofs.Common.{◌≡◌, ◌↔◌, ℕ, Bool, true, false, cond, ⊎_elim, Option, Some, None, Result, Ok, List, refl, sym, ap, ◌∙◌}
use Rattle.tsdb_types.specs.declared.value.Value.{Value}
use Rattle.tsdb_types.specs.declared.value.Value.TheVariants.{Bool as Truth}
use Rattle.line_protocol.specs.declared.fault.LineCode.{LineCode}
use Rattle.line_protocol.specs.Values.{is_word, wordless_value, value_of}
use Rattle.line_protocol.proofs.PartLemmas.{decided}
use Rattle.line_protocol.proofs.value.read_value.Goals as goal

abbrev Reads : Option Bool → List ℕ → Type 0
Reads read text = (truth : Bool) → (read ≡ Some truth) ↔ (is_word text truth ≡ true)

abbrev Answer : Type 0
Answer = Result Value LineCode

none≢some : (t : Bool) → None ≡ Some t → ⊥
none≢some t e = cc

no-other : Some false ≡ Some true → ⊥
no-other e = cc

no-word : (read : Option Bool) (text : List ℕ) (t : Bool) → Reads read text → (read ≡ Some t → ⊥) → is_word text t ≡ false
no-word read text t h other = ⊎_elim (λ (e : is_word text t ≡ true). absurd (other ((h t).1 e))) (λ (e : is_word text t ≡ false). e) (decided (is_word text t))

second : (text : List ℕ) → is_word text true ≡ false → value_of text ≡ cond (is_word text false) (Ok (Truth false)) (wordless_value text)
second text e = ap (λ (b : Bool). let v : Answer = cond b (Ok (Truth true)) (cond (is_word text false) (Ok (Truth false)) (wordless_value text)) in v) e

word-value : (text : List ℕ) (t : Bool) → Reads (Some t) text → Ok (Truth t) ≡ value_of text
word-value text true h = sym (ap (λ (b : Bool). let v : Answer = cond b (Ok (Truth true)) (cond (is_word text false) (Ok (Truth false)) (wordless_value text)) in v) ((h true).0 refl))
word-value text false h =
    sym (second text (no-word (Some false) text true h no-other) ∙ ap (λ (b : Bool). let v : Answer = cond b (Ok (Truth false)) (wordless_value text) in v) ((h false).0 refl))

none-value : (text : List ℕ) → Reads None text → wordless_value text ≡ value_of text
none-value text h =
    sym (second text (no-word None text true h (none≢some true)) ∙ ap (λ (b : Bool). let v : Answer = cond b (Ok (Truth false)) (wordless_value text) in v) (no-word None text false h (none≢some false)))

pub returns-in-Some : goal.returns-in-Some
returns-in-Some c = word-value c.args.text.now c.in-Some.truth c.in-Some.ensures

pub returns-in-None : goal.returns-in-None
returns-in-None c = c.wordless.ensures ∙ none-value c.args.text.now c.in-None.ensures
