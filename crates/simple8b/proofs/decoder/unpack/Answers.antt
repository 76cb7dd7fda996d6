use Rattle.std.proofs.Common.{◌≡◌, ℕ, suc, ◌+◌, ◌-◌, ◌/◌, ◌%◌, ◌^◌, ◌<◌, List, [], ◌∷◌, ◌++◌, length, take, set, bit_and, sym, ◌∙◌, ap, arith, append_assoc}
use Rattle.std.proofs.lemmas.List.{take_more_set, append-nil, drop-set-lt}
use Rattle.std.proofs.lemmas.Nat.{and_mask, one_shl}
use Rattle.simple8b.specs.Unpacked.{unpacked}
use Rattle.simple8b.proofs.Packing.{unpacked-suc, unpacked-zero}
use Rattle.simple8b.proofs.decoder.unpack.Goals as goal

-- the value at `start + k` is the first of what is left of the word
one_more : (values target : List ℕ) (start k count bits rest mask : ℕ) → k < count → start + k < length values → mask ≡ 2 ^ bits - 1 → take (start + k) values ++ unpacked bits (count - k) rest ≡ target → take (start + (k + 1)) (set values (start + k) (bit_and rest mask)) ++ unpacked bits (count - (k + 1)) (rest / 2 ^ bits) ≡ target
one_more values target start k count bits rest mask below room is read =
    let value : bit_and rest mask ≡ rest % 2 ^ bits = ap (λ (m : ℕ). bit_and rest m) is ∙ and_mask rest bits in
    let written : take (start + (k + 1)) (set values (start + k) (bit_and rest mask)) ≡ take (start + k) values ++ rest % 2 ^ bits ∷ [] =
    ap (λ (n : ℕ). take n (set values (start + k) (bit_and rest mask))) (let e : start + (k + 1) ≡ start + k + 1 = omega arith in e)
    ∙ take_more_set values (start + k) (bit_and rest mask) room ∙ ap (λ (v : ℕ). take (start + k) values ++ v ∷ []) value in
    let left : unpacked bits (count - k) rest ≡ rest % 2 ^ bits ∷ unpacked bits (count - (k + 1)) (rest / 2 ^ bits) =
    ap (λ (n : ℕ). unpacked bits n rest) (let e : count - k ≡ suc (count - (k + 1)) = omega arith in e) ∙ unpacked-suc bits (count - (k + 1)) rest in
    ap (λ (front : List ℕ). front ++ unpacked bits (count - (k + 1)) (rest / 2 ^ bits)) written
    ∙ append_assoc (take (start + k) values) (rest % 2 ^ bits ∷ []) (unpacked bits (count - (k + 1)) (rest / 2 ^ bits))
    ∙ ap (λ (back : List ℕ). take (start + k) values ++ back) (sym left)
    ∙ read

pub loop-k-preserved : goal.loop-k-preserved
loop-k-preserved g c = record {
  front = one_more c.loop-k.values (take c.args.start c.args.values.now ++ unpacked g.row.BITS g.row.COUNT c.args.word) c.args.start c.loop-k.k g.row.COUNT g.row.BITS c.loop-k.rest _
      (omega arith) (omega (arith, c.loop-k.auto.values)) (ap (λ (n : ℕ). n - 1) (one_shl g.row.BITS 64 (omega arith))) c.loop-k.invariant.front;
  behind = drop-set-lt (c.args.start + g.row.COUNT) c.loop-k.values (c.args.start + c.loop-k.k) _ (omega arith) ∙ c.loop-k.invariant.behind;
}

pub returns-clause-front : goal.returns-clause-front
returns-clause-front g c =
    let done : c.loop-k.k ≡ g.row.COUNT = omega arith in
    let none : unpacked g.row.BITS (g.row.COUNT - c.loop-k.k) c.loop-k.rest ≡ [] =
    ap (λ (n : ℕ). unpacked g.row.BITS n c.loop-k.rest) (let e : g.row.COUNT - c.loop-k.k ≡ 0 = omega arith in e) ∙ unpacked-zero g.row.BITS c.loop-k.rest in
    ap (λ (n : ℕ). take (c.args.start + n) c.loop-k.values) (sym done)
    ∙ sym (append-nil (take (c.args.start + c.loop-k.k) c.loop-k.values))
    ∙ ap (λ (back : List ℕ). take (c.args.start + c.loop-k.k) c.loop-k.values ++ back) (sym none)
    ∙ c.loop-k.invariant.front
