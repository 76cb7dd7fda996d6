use Rattle.std.proofs.Common.{◌≡◌, List, [], take, drop, sym, ap, ◌∙◌, subst}
use Rattle.std.specs.List.{AllByRecursion}
use Rattle.point_cache.specs.Staged.{Staging, Entry, IsStaging, entries_of, lives, plain}
use Rattle.point_cache.proofs.PlainLemmas.{staging_plain, ascending_lives, count_lives, count_front, entries_of-take, plain-take, ascending_front}
use Rattle.point_cache.proofs.runs.Runs.discard.Goals as goal

pub invariant_of-self : goal.invariant_of-self
invariant_of-self c =
    let es = entries_of c.self.inside.map.entries in
    let k = c.args.keys in
    let empty = subst (λ (s : Staging). AllByRecursion (λ run. run.points ≡ []) (drop k (lives s.entries))) (sym c.self.view_is) c.requires in
    let is : entries_of c.truncate.new.self.entries ≡ plain (take k (lives es)) = ap entries_of c.truncate.ensures.entries ∙ entries_of-take c.discard_all.new.map.entries k ∙ ap (take k) c.discard_all.ensures ∙ plain-take (lives es) k in
    subst (λ (l : List Entry). IsStaging l c.clear.new.self.items c.self.inside.points c.self.inside.points) (sym is)
    (staging_plain (take k (lives es)) c.clear.new.self.items c.self.inside.points (ascending_front (lives es) k (ascending_lives es c.self.inside.touched.items c.self.invariant.each))
    (c.self.invariant.counted ∙ sym (count_lives es) ∙ sym (count_front (lives es) k empty)))

pub returns : goal.returns
returns c =
    let es = entries_of c.self.inside.map.entries in
    let k = c.args.keys in
    let is : entries_of c.truncate.new.self.entries ≡ plain (take k (lives es)) = ap entries_of c.truncate.ensures.entries ∙ entries_of-take c.discard_all.new.map.entries k ∙ ap (take k) c.discard_all.ensures ∙ plain-take (lives es) k in
    let whole : entries_of c.truncate.new.self.entries ≡ plain (take k (lives c.args.self.now.entries)) = is ∙ ap (λ (s : Staging). plain (take k (lives s.entries))) c.self.view_is in
    λ i. record { entries = whole i; touched = c.clear.ensures.items i }
