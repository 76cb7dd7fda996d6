use Rattle.std.proofs.Common.{◌∷◌, [], inl, inr, length, refl, sym, ◌∙◌, ap, arith, length-append, Some, None}
use Rattle.gate_log.specs.declared.log.Log.{Log}
use Rattle.std.proofs.lemmas.Result.{err_from_is_err_and}
use Rattle.gate_log.proofs.Appending.{widens, leaves_staged, leaves_opened}
use Rattle.gate_log.proofs.Elsewhere.{here_then, nowhere}
use Rattle.gate_log.proofs.Results.{on_ok_then, on_trouble}
use Rattle.gate_log.proofs.Settling.{leaves_as_it_is}
use Rattle.gate_log.proofs.log.Log.add.Goals as goal

pub returns-then-size-self-clause-crash : goal.returns-then-size-self-clause-crash
returns-then-size-self-clause-crash g c =
    let laws = g.met.D.Disk g.world.𝓛 g.world.𝓜 g.world.𝓡 ((λ s x. x), (λ x. x), (λ x. x), (λ x. x)) in
    λ tells has records doubt stands. widens c.args.self.now.file records doubt c.args.frame.now _ _
    (leaves_as_it_is c.args.self.now (g.D.Disk.files c.args.disk.now) _ records doubt (laws.only_now c.args.disk.now) has stands)

pub returns-in_err-settle-clause-refused : goal.returns-in_err-settle-clause-refused
returns-in_err-settle-clause-refused g c =
    let p = err_from_is_err_and c.from_residual.result c.from_residual.ensures.1 in
    rw p.1 (record {
      stands = λ tells records doubt stands. (doubt, inr (inl refl), c.in_err-settle.ensures.refused.stands tells records doubt stands);
      sure = λ no_fault doubts. sym (ap (λ (log : Log). log.gate) c.in_err-settle.ensures.refused.same) ∙ doubts;
    })

pub returns-in_err-settle-clause-crash : goal.returns-in_err-settle-clause-crash
returns-in_err-settle-clause-crash g c =
    λ tells has records doubt stands. widens c.args.self.now.file records doubt c.args.frame.now _ _ (c.settle.ensures.crash tells has records doubt stands)

pub returns-in_err-stage-clause-refused : goal.returns-in_err-stage-clause-refused
returns-in_err-stage-clause-refused g c =
    let p = err_from_is_err_and c.from_residual-in_err-stage.result c.from_residual-in_err-stage.ensures.1 in
    rw p.1 (record {
      stands = λ tells records doubt stands. (None, inl refl, c.stage.ensures.stands tells records (c.in_ok-settle.ensures.ok.stands tells records doubt stands));
      sure = λ no_fault doubts. cc (c.in_ok-settle.ensures.ok.shut, doubts);
    })

pub returns-in_err-stage-clause-crash : goal.returns-in_err-stage-clause-crash
returns-in_err-stage-clause-crash g c =
    λ tells has records doubt stands. leaves_staged c.args.self.now.file records doubt c.args.frame.now c.settle.new.self.file c.settle.ensures.kept.file _ _ _ (g.D.Disk.crashes c.stage.new.disk)
    (c.settle.ensures.crash tells has records doubt stands)
    (c.stage.ensures.crash records (c.in_ok-settle.ensures.ok.stands tells records doubt stands))

pub returns-clause-ok : goal.returns-clause-ok
returns-clause-ok g c =
    on_ok_then c.open_gate.result
    (λ opened. record {
      stands = λ tells records doubt stands.
          let settled = c.in_ok-settle.ensures.ok.stands tells records doubt stands in
          opened.stands tells records c.args.frame.now
          (omega (arith, ap length c.bytes-frame.ensures.bytes, length-append c.args.frame.now (0 ∷ [])))
          settled.place (c.in_ok-stage.ensures.staged tells records c.args.frame.now (c.bytes-frame.ensures.bytes) settled);
      shut = opened.shut;
    })
    c.open_gate.ensures.ok

pub returns-clause-refused : goal.returns-clause-refused
returns-clause-refused g c =
    on_trouble c.open_gate.result
    (λ fault. record {
      stands = λ tells records doubt stands.
          let settled = c.in_ok-settle.ensures.ok.stands tells records doubt stands in (
            Some c.args.frame.now,
            inr (inr (fault, refl)),
            c.open_gate.ensures.in_doubt fault tells records c.args.frame.now settled.place (c.in_ok-stage.ensures.staged tells records c.args.frame.now (c.bytes-frame.ensures.bytes) settled),
          );
      sure = λ no_fault doubts. absurd (no_fault fault);
    })
    (λ memory. record {
      stands = λ tells records doubt stands. (
        None,
        inl refl,
        (c.open_gate.ensures.memory memory).stands tells records None (c.stage.ensures.stands tells records (c.in_ok-settle.ensures.ok.stands tells records doubt stands)),
      );
      sure = λ no_fault doubts. cc (ap (λ (log : Log). log.gate) (c.open_gate.ensures.memory memory).same, c.in_ok-settle.ensures.ok.shut, doubts);
    })

pub returns-clause-crash : goal.returns-clause-crash
returns-clause-crash g c =
    λ tells has records doubt stands.
    let settled = c.in_ok-settle.ensures.ok.stands tells records doubt stands in
    leaves_opened c.args.self.now.file records doubt c.args.frame.now c.settle.new.self.file c.settle.ensures.kept.file _ _ _ _
    (c.settle.ensures.crash tells has records doubt stands)
    (c.stage.ensures.crash records settled)
    (c.open_gate.ensures.crash records c.args.frame.now settled.place (c.in_ok-stage.ensures.staged tells records c.args.frame.now (c.bytes-frame.ensures.bytes) settled))

pub returns-then-size-self-clause-elsewhere : goal.returns-then-size-self-clause-elsewhere
returns-then-size-self-clause-elsewhere g c =
    let laws = g.met.D.Disk g.world.𝓛 g.world.𝓜 g.world.𝓡 ((λ s x. x), (λ x. x), (λ x. x), (λ x. x)) in
    nowhere c.args.self.now.file (g.D.Disk.crashes c.args.disk.now) (laws.only_now c.args.disk.now)

pub returns-in_err-stage-clause-elsewhere : goal.returns-in_err-stage-clause-elsewhere
returns-in_err-stage-clause-elsewhere g c =
    here_then c.args.self.now.file c.settle.new.self.file (g.D.Disk.crashes c.args.disk.now) (g.D.Disk.crashes c.settle.new.disk) (g.D.Disk.crashes c.stage.new.disk) c.settle.ensures.kept.file c.settle.ensures.elsewhere c.stage.ensures.elsewhere

pub returns-clause-elsewhere : goal.returns-clause-elsewhere
returns-clause-elsewhere g c =
    here_then c.args.self.now.file c.settle.new.self.file (g.D.Disk.crashes c.args.disk.now) (g.D.Disk.crashes c.stage.new.disk) (g.D.Disk.crashes c.open_gate.new.disk) c.settle.ensures.kept.file
    (here_then c.args.self.now.file c.settle.new.self.file (g.D.Disk.crashes c.args.disk.now) (g.D.Disk.crashes c.settle.new.disk) (g.D.Disk.crashes c.stage.new.disk) c.settle.ensures.kept.file c.settle.ensures.elsewhere c.stage.ensures.elsewhere)
    c.open_gate.ensures.elsewhere
