use Rattle.std.proofs.Common.{◌≢◌, refl, sym, ◌∙◌, arith, ◌≤◌, [], ◌∷◌, length}
use Rattle.std.proofs.lemmas.Bool.{false≢true}
use Rattle.std.proofs.lemmas.Result.{err_from_is_err_and}
use Rattle.shard_disk.specs.Directory.{IfThere, Overwritten, Torn}
use Rattle.shard_disk.proofs.Everywhere.{file_after, file_weaker}
use Rattle.gate_log.specs.declared.log.Gate.TheVariants.{Shut}
use Rattle.gate_log.proofs.Elsewhere.{nowhere, only_here}
use Rattle.gate_log.proofs.Settling.{still_stands, stands_shut, leaves_either, leaves_as_it_is, reaches}
use Rattle.gate_log.proofs.log.Log.close_gate.Goals as goal

pub returns-then-eq-clause-crash : goal.returns-then-eq-clause-crash
returns-then-eq-clause-crash g c =
    let laws = g.met.D.Disk g.world.𝓛 g.world.𝓜 g.world.𝓡 ((λ s x. x), (λ x. x), (λ x. x), (λ x. x)) in
    λ tells has records doubt stands. leaves_as_it_is c.args.self.now (g.D.Disk.files c.args.disk.now) _ records doubt (laws.only_now c.args.disk.now) has stands

pub returns-in_err-write_durably-clause-refused : goal.returns-in_err-write_durably-clause-refused
returns-in_err-write_durably-clause-refused g c =
    let moves : c.args.self.now.gate ≢ Shut = λ is. false≢true (sym c.if-eq.false ∙ rw is at c.eq.ensures) in
    let p = err_from_is_err_and c.from_residual.result c.from_residual.ensures.1 in
    rw p.1 (record {
      stands = λ tells records doubt stands. still_stands c.args.self.now _ _ _ _ records doubt moves stands (c.write_durably.ensures.torn tells) c.write_durably.ensures.crash;
      same = refl;
    })

pub returns-in_err-write_durably-clause-crash : goal.returns-in_err-write_durably-clause-crash
returns-in_err-write_durably-clause-crash g c =
    let moves : c.args.self.now.gate ≢ Shut = λ is. false≢true (sym c.if-eq.false ∙ rw is at c.eq.ensures) in
    λ tells has records doubt stands. leaves_either c.args.self.now (g.D.Disk.files c.args.disk.now) (g.D.Disk.files c.args.disk.now) _ _ records doubt moves stands has c.write_durably.ensures.crash

pub returns-clause-ok : goal.returns-clause-ok
returns-clause-ok g c =
    let moves : c.args.self.now.gate ≢ Shut = λ is. false≢true (sym c.if-eq.false ∙ rw is at c.eq.ensures) in
    record {
      stands = λ tells records doubt stands. stands_shut c.args.self.now _ _ _ _ records doubt moves stands _ refl refl refl (c.in_ok-write_durably.ensures.written tells) (c.write_durably.ensures.torn tells) c.write_durably.ensures.crash c.in_ok-write_durably.ensures.durable;
      shut = refl;
      place = refl;
    }

pub returns-clause-crash : goal.returns-clause-crash
returns-clause-crash g c =
    let moves : c.args.self.now.gate ≢ Shut = λ is. false≢true (sym c.if-eq.false ∙ rw is at c.eq.ensures) in
    λ tells has records doubt stands. leaves_either c.args.self.now (g.D.Disk.files c.args.disk.now) (g.D.Disk.files c.args.disk.now) _ _ records doubt moves stands has c.write_durably.ensures.crash

pub returns-clause-placed : goal.returns-clause-placed
returns-clause-placed g c =
    λ tells. file_after c.args.self.now.file (Overwritten c.args.self.now.end (0 ∷ [])) (λ bytes. c.args.self.now.end ≤ length bytes) _ (reaches c.args.self.now.end) _ _
    (file_weaker c.args.self.now.file _ _ (λ bytes long. omega arith) (g.D.Disk.files c.args.disk.now) (c.requires tells)) (c.in_ok-write_durably.ensures.written tells)

pub returns-then-eq-clause-elsewhere : goal.returns-then-eq-clause-elsewhere
returns-then-eq-clause-elsewhere g c =
    let laws = g.met.D.Disk g.world.𝓛 g.world.𝓜 g.world.𝓡 ((λ s x. x), (λ x. x), (λ x. x), (λ x. x)) in
    nowhere c.args.self.now.file (g.D.Disk.crashes c.args.disk.now) (laws.only_now c.args.disk.now)

pub returns-in_err-write_durably-clause-elsewhere : goal.returns-in_err-write_durably-clause-elsewhere
returns-in_err-write_durably-clause-elsewhere g c =
    only_here c.args.self.now.file (IfThere (Torn c.args.self.now.end 1)) (g.D.Disk.crashes c.args.disk.now) (g.D.Disk.crashes c.write_durably.new.disk) c.write_durably.ensures.crash

pub returns-clause-elsewhere : goal.returns-clause-elsewhere
returns-clause-elsewhere g c =
    only_here c.args.self.now.file (IfThere (Torn c.args.self.now.end 1)) (g.D.Disk.crashes c.args.disk.now) (g.D.Disk.crashes c.write_durably.new.disk) c.write_durably.ensures.crash
