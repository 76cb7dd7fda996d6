use Rattle.std.proofs.Common.{◌≡◌, ◌==◌, ◌∙◌, [], sym, ap, subst, ℕ, List, length, Vec, Err, arith}
use Rattle.std.proofs.lemmas.Result.{err_from_is_err_and}
use Rattle.std.proofs.lemmas.Bool.{false≢true}
use Rattle.std.proofs.lemmas.List.{nil_from_length}
use Rattle.std.specs.declared.alloc.Global.{Global}
use Rattle.shard_disk.specs.Directory.{Directory as Files}
use Rattle.shard_disk.specs.Directory.{HasFile}
use Rattle.shard_disk.specs.declared.damage.Why.TheVariants.{Body}
use Rattle.std.proofs.lemmas.Bool.Decides.{nat_tests}
use Rattle.gate_log.specs.declared.fault.LogFault.{LogFault}
use Rattle.gate_log.specs.declared.fault.LogFault.TheVariants.{Damaged}
use Rattle.gate_log.specs.Damage.{bodies}
use Rattle.manifest_log.specs.Reading.{IsWrong, StandsBehind, bodies_of}
use Rattle.std.specs.Prelude.{IsTrue}
use Rattle.gate_log.specs.Calls.Read.{Reads}
use Rattle.manifest_log.specs.Edits.{empty}
use Rattle.manifest_log.proofs.OpenLemmas.{lead_floor, lead_sound, strange_file, segment_file, some_edits}
use Rattle.manifest_log.proofs.opening.read_file.Goals as goal

pub returns-in_err-directory-clause-damaged : goal.returns-in_err-directory-clause-damaged
returns-in_err-directory-clause-damaged g c = λ damage is tells.
    let p = err_from_is_err_and c.from_residual-in_err-directory.result c.from_residual-in_err-directory.ensures.1 in
    let told : c.in_err-directory.field-0.0 ≡ Damaged damage = cc (p.1, p.2, is) in
    let read = c.in_ok-log.ensures.ok in
    let strange = c.in_err-directory.ensures.strange damage (ap (λ (e : LogFault). Err e) told) in
    let records : List (List ℕ) = bodies c.in_ok-log.records.items in
    let behind = subst (λ (l : List (Vec ℕ Global)). StandsBehind damage (bodies l)) c.deref.ensures.value strange in
    subst (λ (f : Files). HasFile f 0 (IsWrong damage)) c.read.ensures.files (strange_file damage c.in_ok-log.log.gate records (g.D.Disk.files c.read.new.disk) read.fit (read.found tells) behind)

pub returns-then-is_empty-2-clause-damaged : goal.returns-then-is_empty-2-clause-damaged
returns-then-is_empty-2-clause-damaged g c = λ damage is tells.
    let told : damage ≡ record { file = 0; offset = 0; why = Body } = cc (c.damage.ensures, is) in
    let read = c.in_ok-log.ensures.ok in
    let found = c.in_ok-directory.ensures.found in
    let records = c.in_ok-log.records.items in
    let are : bodies records ≡ bodies_of found.0 = ap bodies (sym c.deref.ensures.value) ∙ found.1 in
    let some : length records ≡ 0 → ⊥ = λ zero. false≢true (sym c.if-is_empty.false ∙ c.is_empty.ensures ∙ ap (λ n. n == 0) (c.in_ok-log.records.ok.0 ∙ zero)) in
    let here : length c.as_slice.result.now ≡ 0 = grind (arith, nat_tests, c.is_empty-2.ensures, c.if-is_empty-2.true) in
    let none : c.in_ok-directory.directory.segments ≡ [] = nil_from_length c.in_ok-directory.directory.segments (ap length (sym c.as_slice.ensures) ∙ here) in
    subst (λ (f : Files). HasFile f 0 (IsWrong damage)) c.read.ensures.files
    (segment_file damage c.in_ok-log.log.gate (bodies records) (g.D.Disk.files c.read.new.disk) found.0 c.in_ok-directory.directory read.fit (read.found tells) are (some_edits records found.0 some are) found.2 none told)

pub returns-clause-found : goal.returns-clause-found
returns-clause-found g c =
    let read = c.in_ok-log.ensures.ok in
    let found = c.in_ok-directory.ensures.found in
    let records = c.in_ok-log.records.items in
    let directory = c.in_ok-directory.directory in
    let are : bodies records ≡ bodies_of found.0 = ap bodies (sym c.deref.ensures.value) ∙ found.1 in
    let some : length records ≡ 0 → ⊥ = λ zero. false≢true (sym c.if-is_empty.false ∙ c.is_empty.ensures ∙ ap (λ n. n == 0) (c.in_ok-log.records.ok.0 ∙ zero)) in
    let edits = some_edits records found.0 some are in
    record {
      edits = found.0;
      some = edits;
      log = subst (λ (r : List (List ℕ)). Reads (IsTrue g.D.Disk.tells) 0 c.in_ok-log.log r (g.D.Disk.files c.args.disk.now) (g.D.Disk.crashes c.args.disk.now) (g.D.Disk.crashes c.read.new.disk)) are
          (subst (λ (f : Files). Reads (IsTrue g.D.Disk.tells) 0 c.in_ok-log.log (bodies records) f (g.D.Disk.crashes c.args.disk.now) (g.D.Disk.crashes c.read.new.disk)) c.read.ensures.files read);
      lead = found.2;
      segment = λ none. false≢true (sym c.if-is_empty-2.false ∙ c.is_empty-2.ensures ∙ ap (λ n. n == 0) (ap length (c.as_slice.ensures ∙ none)));
      sound = lead_sound found.0 empty directory edits found.2.leave;
      floor = lead_floor found.0 empty directory (omega arith) found.2.leave;
    }
