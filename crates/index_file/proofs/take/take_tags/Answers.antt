use Rattle.std.proofs.Common.{◌≡◌, ℕ, ◌+◌, List, [], ◌∷◌, ◌++◌, None, Some, sym, subst, arith}
use Rattle.fixed_width.specs.Fields.{bytes_of_u32}
use Rattle.index_file.specs.declared.content.TagIds.{TagIds}
use Rattle.index_file.specs.Contents.{AreTags}
use Rattle.index_file.specs.Format.{counted_bytes, tag_bytes}
use Rattle.index_file.proofs.TakeLemmas.{stopped}
use Rattle.index_file.proofs.ItemLemmas.{IsId, MayBeNextTagIds, TakenTags, tags_none, tags_one, tags_stuck, tags_no_count, tags_all}
use Rattle.index_file.proofs.take.take_tags.Goals as goal

pub returns-in_err-count : goal.returns-in_err-count
returns-in_err-count c =
    stopped IsId bytes_of_u32 AreTags (counted_bytes tag_bytes) c.from_residual.result c.in_err-count.field-0.0 c.args.rest.now c.take_u32.new.self c.args.rest.now c.take_u32.new.self
    c.from_residual.ensures.1 c.in_err-count.ensures (tags_no_count c.args.rest.now)

pub loop-init : goal.loop-init
loop-init c = subst (λ (done : List TagIds). TakenTags c.take_u32.new.self None done c.take_u32.new.self 0) (sym c.new-tags.ensures.items) (tags_none c.take_u32.new.self)

pub returns-in_err-tag : goal.returns-in_err-tag
returns-in_err-tag c =
    stopped (MayBeNextTagIds c.loop.last) tag_bytes AreTags (counted_bytes tag_bytes) c.from_residual-in_err-tag.result c.in_err-tag.field-0.0 c.loop.rest c.take_tag.new.rest c.args.rest.now c.take_tag.new.rest
    c.from_residual-in_err-tag.ensures.1 c.in_err-tag.ensures
    (tags_stuck c.args.rest.now c.take_u32.new.self c.loop.rest c.loop.last c.loop.tags.items c.loop.counter c.in_ok-count.count c.in_ok-count.ensures.1 c.in_ok-count.ensures.0 c.loop-test.true c.loop.invariant)

pub loop-preserved : goal.loop-preserved
loop-preserved c =
    subst (λ (done : List TagIds). TakenTags c.take_u32.new.self (Some c.in_ok-carry.field-0) done c.take_tag.new.rest (c.loop.counter + 1)) (sym c.in_ok-push.ensures.items)
    (subst (λ (k : List ℕ). TakenTags c.take_u32.new.self (Some k) (c.loop.tags.items ++ c.in_ok-tag.tag ∷ []) c.take_tag.new.rest (c.loop.counter + 1)) (sym c.in_ok-carry.ensures)
    (tags_one c.take_u32.new.self c.loop.rest c.take_tag.new.rest c.loop.last c.loop.tags.items c.loop.counter c.in_ok-tag.tag c.loop.invariant c.in_ok-tag.ensures.0 c.in_ok-tag.ensures.1))

pub returns : goal.returns
returns c =
    let end : c.loop.counter ≡ c.in_ok-count.count = omega (arith, c.loop.auto.counter-end, c.loop-test.false) in
    subst (λ (xs : List TagIds). AreTags xs × (c.args.rest.now ≡ counted_bytes tag_bytes xs ++ c.loop.rest)) (sym c.new.ensures)
    (tags_all c.args.rest.now c.take_u32.new.self c.loop.rest c.loop.last c.loop.tags.items c.loop.counter c.in_ok-count.count c.in_ok-count.ensures.1 c.in_ok-count.ensures.0 end c.loop.invariant)
