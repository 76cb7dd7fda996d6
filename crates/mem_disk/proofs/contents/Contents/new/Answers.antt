use Rattle.std.proofs.Common.{◌≡◌, ℕ, [], List, sym, ◌∙◌, ap, subst, None, Option, arith}
use Rattle.std.specs.Prelude.{reverse, IsSome}
use Rattle.std.specs.BTreeMap as tree
use Rattle.std.specs.Map.{lookup}
use Rattle.std.specs.FinMap.{get, get-empty}
use Rattle.std.specs.Ordering.{nat_cmp}
use Rattle.std.proofs.lemmas.Bool.{false≢true}
use Rattle.mem_disk.specs.declared.change.Change.{Change}
use Rattle.mem_disk.specs.History.{bytes_of, reads}
use Rattle.mem_disk.proofs.Kept.{not_adopted}
use Rattle.mem_disk.proofs.contents.Contents.new.Goals as goal

none_yet : (changes : List Change) (n : ℕ) → changes ≡ [] → get (reads (reverse changes)) n ≡ None
none_yet changes n is = ap (λ (l : List Change). get (reads (reverse l)) n) is ∙ get-empty nat_cmp n

absent : {A : Type 0} (changes : List Change) (n : ℕ) → changes ≡ [] → IsSome (get (reads (reverse changes)) n) → A
absent changes n none is = absurd (false≢true (subst (λ (o : Option (List ℕ)). IsSome o) (none_yet changes n none) is))

pub invariant_of-result : goal.invariant_of-result
invariant_of-result c = record {
  agrees = λ n. ap (λ es. bytes_of (lookup (tree.is_at (nat_cmp n)) es)) c.new.ensures.empty ∙ sym (none_yet c.new-2.result.items n c.new-2.ensures.items);
  below = λ n is. absent c.new-2.result.items n c.new-2.ensures.items is;
  clean = λ n is apart. absent c.new-2.result.items n c.new-2.ensures.items is;
  marked = λ n apart. not_adopted (reverse c.new-2.result.items) n (none_yet c.new-2.result.items n c.new-2.ensures.items);
  room = omega (arith, c.new.ensures.len, c.new-2.ensures.len, c.new-3.ensures.len, c.new-4.ensures.len);
}
