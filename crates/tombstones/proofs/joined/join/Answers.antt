use Rattle.std.proofs.Common.{◌≡◌, ℤ, ◌≤ℤ◌, ◌<ℤ◌, ◌+ℤ◌, ◌-ℤ◌, pos, ◌≤◌, List, ◌∷◌, ◌++◌, length, take, drop, sym, ap, ◌∙◌, subst, rules, FitsSigned, w64, to_z, of_z}
use Rattle.std.proofs.lemmas.Int.{to_z-of_z}
use Rattle.tombstones.specs.declared.range.TombRange.{TombRange}
use Rattle.tombstones.specs.Ranges.{CoversAlso, AreApart}
use Rattle.tombstones.proofs.CoverLemmas.{moved, some_middle, IsEarlier, IsLater, before_moment, behind_moment, put_apart, put_joined, all_later, joined_list}
use Rattle.tombstones.proofs.joined.join.Goals as goal

pub returns-then-first-last-clause-ok : goal.returns-then-first-last-clause-ok
returns-then-first-last-clause-ok c =
    let xs = c.args.ranges.now.items in
    let i = c.ended_before-first.result in
    let j = c.begun_at-last.result in
    let range = c.args.range in
    let fits : FitsSigned w64 c.get.result = search rules in
    let fits' : FitsSigned w64 c.get-2.result = search rules in
    let before : to_z w64 (of_z w64 (to_z w64 (of_z w64 c.get.result) -ℤ pos 1)) ≡ range.from -ℤ pos 1 = ap (λ (z : ℤ). to_z w64 (of_z w64 (z -ℤ pos 1))) (to_z-of_z w64 c.get.result fits) ∙ before_moment c.get.result c.get.ensures.moment ∙ ap (λ (z : ℤ). z -ℤ pos 1) c.get.ensures.value in
    let behind : to_z w64 (of_z w64 (to_z w64 (of_z w64 c.get-2.result) +ℤ pos 1)) ≡ range.to +ℤ pos 1 = ap (λ (z : ℤ). to_z w64 (of_z w64 (z +ℤ pos 1))) (to_z-of_z w64 c.get-2.result fits') ∙ behind_moment c.get-2.result c.get-2.ensures.moment ∙ ap (λ (z : ℤ). z +ℤ pos 1) c.get-2.ensures.value in
    let ended = moved (λ t r. r.to <ℤ t) (take i) before c.deref.ensures.value c.ended_before-first.ensures.ended in
    let later = moved (λ t r. t <ℤ r.from) (drop j) behind c.deref-2.ensures.value c.begun_at-last.ensures.others in
    let all = all_later (λ (r : TombRange). (range.to +ℤ pos 1) <ℤ r.from) xs i j c.if-first-last.true later in
    let put = put_apart xs i range c.requires.apart c.requires.some ended all in
    subst (CoversAlso xs range) (sym c.in_ok-insert.ensures.items) put.0

pub returns-then-first-last-clause-apart : goal.returns-then-first-last-clause-apart
returns-then-first-last-clause-apart c =
    let xs = c.args.ranges.now.items in
    let i = c.ended_before-first.result in
    let j = c.begun_at-last.result in
    let range = c.args.range in
    let fits : FitsSigned w64 c.get.result = search rules in
    let fits' : FitsSigned w64 c.get-2.result = search rules in
    let before : to_z w64 (of_z w64 (to_z w64 (of_z w64 c.get.result) -ℤ pos 1)) ≡ range.from -ℤ pos 1 = ap (λ (z : ℤ). to_z w64 (of_z w64 (z -ℤ pos 1))) (to_z-of_z w64 c.get.result fits) ∙ before_moment c.get.result c.get.ensures.moment ∙ ap (λ (z : ℤ). z -ℤ pos 1) c.get.ensures.value in
    let behind : to_z w64 (of_z w64 (to_z w64 (of_z w64 c.get-2.result) +ℤ pos 1)) ≡ range.to +ℤ pos 1 = ap (λ (z : ℤ). to_z w64 (of_z w64 (z +ℤ pos 1))) (to_z-of_z w64 c.get-2.result fits') ∙ behind_moment c.get-2.result c.get-2.ensures.moment ∙ ap (λ (z : ℤ). z +ℤ pos 1) c.get-2.ensures.value in
    let ended = moved (λ t r. r.to <ℤ t) (take i) before c.deref.ensures.value c.ended_before-first.ensures.ended in
    let later = moved (λ t r. t <ℤ r.from) (drop j) behind c.deref-2.ensures.value c.begun_at-last.ensures.others in
    let all = all_later (λ (r : TombRange). (range.to +ℤ pos 1) <ℤ r.from) xs i j c.if-first-last.true later in
    let put = put_apart xs i range c.requires.apart c.requires.some ended all in
    subst AreApart (sym c.in_ok-insert.ensures.items) put.1

pub returns-clause-ok : goal.returns-clause-ok
returns-clause-ok c =
    let xs = c.args.ranges.now.items in
    let i = c.ended_before-first.result in
    let j = c.begun_at-last.result in
    let range = c.args.range in
    let fits : FitsSigned w64 c.get.result = search rules in
    let fits' : FitsSigned w64 c.get-2.result = search rules in
    let before : to_z w64 (of_z w64 (to_z w64 (of_z w64 c.get.result) -ℤ pos 1)) ≡ range.from -ℤ pos 1 = ap (λ (z : ℤ). to_z w64 (of_z w64 (z -ℤ pos 1))) (to_z-of_z w64 c.get.result fits) ∙ before_moment c.get.result c.get.ensures.moment ∙ ap (λ (z : ℤ). z -ℤ pos 1) c.get.ensures.value in
    let behind : to_z w64 (of_z w64 (to_z w64 (of_z w64 c.get-2.result) +ℤ pos 1)) ≡ range.to +ℤ pos 1 = ap (λ (z : ℤ). to_z w64 (of_z w64 (z +ℤ pos 1))) (to_z-of_z w64 c.get-2.result fits') ∙ behind_moment c.get-2.result c.get-2.ensures.moment ∙ ap (λ (z : ℤ). z +ℤ pos 1) c.get-2.ensures.value in
    let ended = moved (λ t r. r.to <ℤ t) (take i) before c.deref.ensures.value c.ended_before-first.ensures.ended in
    let later = moved (λ t r. t <ℤ r.from) (drop j) behind c.deref-2.ensures.value c.begun_at-last.ensures.others in
    let ends = moved (λ t r. t ≤ℤ r.to) (drop i) before c.deref.ensures.value c.ended_before-first.ensures.others in
    let starts = moved (λ t r. r.from ≤ℤ t) (take j) behind c.deref-2.ensures.value c.begun_at-last.ensures.begun in
    let bound : j ≤ length xs = subst (λ (ys : List TombRange). j ≤ length ys) c.deref-2.ensures.value c.begun_at-last.ensures.bound in
    let m : TombRange = record { from = c.earlier.result; to = c.later.result } in
    let early : IsEarlier range.from c.index.result.now.from c.earlier.result = record { least = c.earlier.ensures.least; either = c.earlier.ensures.either } in
    let late : IsLater range.to c.index-2.result.now.to c.later.result = record { greatest = c.later.ensures.greatest; either = c.later.ensures.either } in
    let put = put_joined xs i j range c.index.result.now c.index-2.result.now m c.requires.apart c.if-first-last.false bound c.requires.some c.index.ensures c.index-2.ensures ended ends starts later early late in
    let new : c.cut_out.new.ranges.items ≡ take i xs ++ (m ∷ drop j xs) = c.cut_out.ensures ∙ joined_list xs i j m c.if-first-last.false bound in
    subst (CoversAlso xs range) (sym new) put.0

pub returns-clause-some : goal.returns-clause-some
returns-clause-some c =
    let xs = c.args.ranges.now.items in
    let i = c.ended_before-first.result in
    let j = c.begun_at-last.result in
    let bound : j ≤ length xs = subst (λ (ys : List TombRange). j ≤ length ys) c.deref-2.ensures.value c.begun_at-last.ensures.bound in
    let m : TombRange = record { from = c.earlier.result; to = c.later.result } in
    let new : c.cut_out.new.ranges.items ≡ take i xs ++ (m ∷ drop j xs) = c.cut_out.ensures ∙ joined_list xs i j m c.if-first-last.false bound in
    λ none. some_middle (take i xs) m (drop j xs) (sym new ∙ none)

pub returns-clause-apart : goal.returns-clause-apart
returns-clause-apart c =
    let xs = c.args.ranges.now.items in
    let i = c.ended_before-first.result in
    let j = c.begun_at-last.result in
    let range = c.args.range in
    let fits : FitsSigned w64 c.get.result = search rules in
    let fits' : FitsSigned w64 c.get-2.result = search rules in
    let before : to_z w64 (of_z w64 (to_z w64 (of_z w64 c.get.result) -ℤ pos 1)) ≡ range.from -ℤ pos 1 = ap (λ (z : ℤ). to_z w64 (of_z w64 (z -ℤ pos 1))) (to_z-of_z w64 c.get.result fits) ∙ before_moment c.get.result c.get.ensures.moment ∙ ap (λ (z : ℤ). z -ℤ pos 1) c.get.ensures.value in
    let behind : to_z w64 (of_z w64 (to_z w64 (of_z w64 c.get-2.result) +ℤ pos 1)) ≡ range.to +ℤ pos 1 = ap (λ (z : ℤ). to_z w64 (of_z w64 (z +ℤ pos 1))) (to_z-of_z w64 c.get-2.result fits') ∙ behind_moment c.get-2.result c.get-2.ensures.moment ∙ ap (λ (z : ℤ). z +ℤ pos 1) c.get-2.ensures.value in
    let ended = moved (λ t r. r.to <ℤ t) (take i) before c.deref.ensures.value c.ended_before-first.ensures.ended in
    let later = moved (λ t r. t <ℤ r.from) (drop j) behind c.deref-2.ensures.value c.begun_at-last.ensures.others in
    let ends = moved (λ t r. t ≤ℤ r.to) (drop i) before c.deref.ensures.value c.ended_before-first.ensures.others in
    let starts = moved (λ t r. r.from ≤ℤ t) (take j) behind c.deref-2.ensures.value c.begun_at-last.ensures.begun in
    let bound : j ≤ length xs = subst (λ (ys : List TombRange). j ≤ length ys) c.deref-2.ensures.value c.begun_at-last.ensures.bound in
    let m : TombRange = record { from = c.earlier.result; to = c.later.result } in
    let early : IsEarlier range.from c.index.result.now.from c.earlier.result = record { least = c.earlier.ensures.least; either = c.earlier.ensures.either } in
    let late : IsLater range.to c.index-2.result.now.to c.later.result = record { greatest = c.later.ensures.greatest; either = c.later.ensures.either } in
    let put = put_joined xs i j range c.index.result.now c.index-2.result.now m c.requires.apart c.if-first-last.false bound c.requires.some c.index.ensures c.index-2.ensures ended ends starts later early late in
    let new : c.cut_out.new.ranges.items ≡ take i xs ++ (m ∷ drop j xs) = c.cut_out.ensures ∙ joined_list xs i j m c.if-first-last.false bound in
    subst AreApart (sym new) put.1
