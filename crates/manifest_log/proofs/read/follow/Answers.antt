use Rattle.std.proofs.Common.{◌≡◌, ◌∙◌, sym, Vec}
use Rattle.std.proofs.lemmas.Bool.{false≢true}
use Rattle.std.specs.declared.alloc.Global.{Global}
use Rattle.manifest_log.specs.declared.change.Change.{Change}
use Rattle.manifest_log.specs.Format.{edit_bytes, IsWritable}
use Rattle.manifest_log.proofs.EditLemmas.{if_ok_map}
use Rattle.manifest_log.proofs.FollowLemmas.{if_some_at, not_made, not_sound}
use Rattle.manifest_log.proofs.read.follow.Goals as goal

pub returns-then-not-branch-clause-none : goal.returns-then-not-branch-clause-none
returns-then-not-branch-clause-none c = λ no.
    not_made c.args.directory.now c.args.body.now c.in-Some.changes.items c.deref.result.now
    (if_some_at (λ (v : Vec Change Global). c.args.body.now ≡ edit_bytes v.items) c.in_ok-changes.field-0 c.in-Some.changes c.in-Some.is c.in_ok-changes.ensures.found) (if_some_at (λ (v : Vec Change Global). IsWritable v.items) c.in_ok-changes.field-0 c.in-Some.changes c.in-Some.is c.in_ok-changes.ensures.writable)
    c.deref.ensures.value (c.in_ok-make_all.ensures.not_made c.if-not-branch.true)

pub returns-clause-none : goal.returns-clause-none
returns-clause-none c =
    if_ok_map c.is_sound.result
    (λ sound tells no. not_sound c.args.directory.now c.make_all.new.directory c.args.body.now c.in-Some.changes.items c.deref.result.now
    (if_some_at (λ (v : Vec Change Global). c.args.body.now ≡ edit_bytes v.items) c.in_ok-changes.field-0 c.in-Some.changes c.in-Some.is c.in_ok-changes.ensures.found) (if_some_at (λ (v : Vec Change Global). IsWritable v.items) c.in_ok-changes.field-0 c.in-Some.changes c.in-Some.is c.in_ok-changes.ensures.writable)
    c.deref.ensures.value (c.in_ok-make_all.ensures.made c.if-not-branch.false) (λ is. false≢true (sym no ∙ tells.1 is)))
    c.is_sound.ensures
