use Rattle.std.proofs.Common.{◌≡◌, ◌∙◌, [], length, ap, subst, arith, Vec, ℕ, List}
use Rattle.std.proofs.lemmas.List.{take_all}
use Rattle.std.specs.declared.alloc.Global.{Global}
use Rattle.shard_disk.specs.declared.damage.Damage.{Damage}
use Rattle.shard_disk.specs.declared.damage.Why.TheVariants.{Body}
use Rattle.gate_log.specs.Damage.{bodies}
use Rattle.series_store.specs.Lists.{Hold}
use Rattle.series_store.specs.Reading.{StandsBehind}
use Rattle.series_store.proofs.HoldLemmas.{folded_none, folded_more, hold_sound, list_none, stands_behind}
use Rattle.series_store.proofs.read.series_of.Goals as goal

pub loop-record-init : goal.loop-record-init
loop-record-init c = folded_none c.with_hasher-held.result.keys c.with_hasher-held.ensures.empty

pub loop-record-preserved : goal.loop-record-preserved
loop-record-preserved c =
    let record_ = c.record-item.result in
    folded_more c.args.records.now c.loop-record.record-index record_ c.loop-record.held.keys c.follow.new.held.keys c.deref.result.now c.loop-record.gate c.in-Some.next c.loop-record-test.true
    (c.deref.ensures.value ∙ ap (λ (v : Vec ℕ Global). v.items) c.record-item.is) c.loop-record.invariant (c.in_ok-follow.ensures.follows c.if-not-branch.false)
    (omega (arith, c.in-Some.ensures.1, c.len.ensures, record_.ok.0, ap length c.deref.ensures.value))

pub returns-then-not-branch-clause-strange : goal.returns-then-not-branch-clause-strange
returns-then-not-branch-clause-strange c = λ told is.
    let here : Damage = record { file = c.args.no; offset = c.loop-record.gate; why = Body } in
    let same : here ≡ told = cc is in
    subst (λ (d : Damage). StandsBehind d c.args.no (bodies c.args.records.now)) same
    (stands_behind c.args.records.now c.loop-record.record-index c.record-item.result c.args.no c.loop-record.held.keys c.deref.result.now c.loop-record.gate c.loop-record-test.true
    (c.deref.ensures.value ∙ ap (λ (v : Vec ℕ Global). v.items) c.record-item.is) c.loop-record.invariant (c.in_ok-follow.ensures.none c.if-not-branch.true))

pub returns-clause-found : goal.returns-clause-found
returns-clause-found c =
    let all = take_all c.loop-record.record-index c.args.records.now c.loop-record-test.false in
    subst (λ (l : List (Vec ℕ Global)). Hold (bodies l) c.loop-record.held.keys) all c.loop-record.invariant.hold

pub follow-requires : goal.follow-requires
follow-requires c = (hold_sound _ [] _ list_none c.loop-record.invariant.hold).few
