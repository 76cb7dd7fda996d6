use Rattle.std.proofs.Common.{◌≡◌, ◌∙◌, length, sym, ap, subst, arith, Vec, ℕ, []}
use Rattle.std.proofs.lemmas.List.{take_all}
use Rattle.std.specs.declared.alloc.Global.{Global}
use Rattle.shard_disk.specs.declared.damage.Damage.{Damage}
use Rattle.shard_disk.specs.declared.damage.Why.TheVariants.{Body}
use Rattle.gate_log.specs.Damage.{bodies}
use Rattle.manifest_log.specs.declared.directory.Directory.{Directory}
use Rattle.manifest_log.specs.Reading.{StandsBehind}
use Rattle.manifest_log.proofs.FoldLemmas.{Folded, folded_none, folded_more, stands_behind}
use Rattle.manifest_log.proofs.read.directory_of.Goals as goal

pub loop-record-init : goal.loop-record-init
loop-record-init c = subst (λ (d : Directory). Folded [] d 0) (sym c.new-directory.ensures) folded_none

pub loop-record-preserved : goal.loop-record-preserved
loop-record-preserved c =
    let record_ = c.record-item.result in
    folded_more c.args.records.now c.loop-record.record-index record_ c.loop-record.directory c.follow.new.directory c.deref.result.now c.loop-record.gate c.in-Some.next c.loop-record-test.true
    (c.deref.ensures.value ∙ ap (λ (v : Vec ℕ Global). v.items) c.record-item.is) c.loop-record.invariant (c.in_ok-follow.ensures.follows c.if-not-branch.false)
    (omega (arith, c.in-Some.ensures.1, c.len.ensures, record_.ok.0, ap length c.deref.ensures.value))

pub returns-then-not-branch-clause-strange : goal.returns-then-not-branch-clause-strange
returns-then-not-branch-clause-strange c = λ told is.
    let here : Damage = record { file = 0; offset = c.loop-record.gate; why = Body } in
    let same : here ≡ told = cc (c.damage.ensures, is) in
    subst (λ (d : Damage). StandsBehind d (bodies c.args.records.now)) same
    (stands_behind c.args.records.now c.loop-record.record-index c.record-item.result c.loop-record.directory c.deref.result.now c.loop-record.gate c.loop-record-test.true
    (c.deref.ensures.value ∙ ap (λ (v : Vec ℕ Global). v.items) c.record-item.is) c.loop-record.invariant (c.in_ok-follow.ensures.none c.if-not-branch.true))

pub returns-clause-found : goal.returns-clause-found
returns-clause-found c =
    let all = take_all c.loop-record.record-index c.args.records.now c.loop-record-test.false in
    (c.loop-record.invariant.edits, sym (ap bodies all) ∙ c.loop-record.invariant.are, c.loop-record.invariant.lead)
