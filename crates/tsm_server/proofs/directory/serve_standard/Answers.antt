-- The client was opened and served, or it wasn't and nobody was.
use Rattle.std.proofs.Common.{[], ◌∷◌, inl, inr, refl}
use Rattle.tsm_server.specs.Directories.{seen}
use Rattle.tsm_server.specs.Words.{standard}
use Rattle.tsm_server.proofs.DirectoriesLemmas.{closes_none, opening_failed}
use Rattle.tsm_server.proofs.directory.serve_standard.Goals as goal

pub returns-in-Err-clause-cause : goal.returns-in-Err-clause-cause
returns-in-Err-clause-cause g c = λ disk opened.
    let middle = seen g.K.Desk.health g.K.Desk.dirs g.K.Desk.held g.K.Desk.closed c.open_client.new.self in
    inr (record {
      why = c.in-Err.trouble;
      opened = [];
      middle = middle;
      opens = record {
        front = [];
        behind = standard ∷ [];
        whole = refl;
        between = seen g.K.Desk.health g.K.Desk.dirs g.K.Desk.held g.K.Desk.closed c.args.desk.now;
        opens = refl;
        failed = record { held = c.in-Err.ensures.refused; dirs = c.in-Err.ensures.dirs.0; closed = c.in-Err.ensures.closed; cause = opening_failed _ _ _ c.in-Err.ensures.fault };
      };
      later = middle;
      closes = closes_none middle;
      nobody = c.serve_nobody.ensures.nobody disk opened;
    })

pub returns-in-Ok-clause-cause : goal.returns-in-Ok-clause-cause
returns-in-Ok-clause-cause g c = λ disk opened.
    let between = seen g.K.Desk.health g.K.Desk.dirs g.K.Desk.held g.K.Desk.closed c.open_client.new.self in
    inl (
      c.in-Ok.client ∷ [],
      between,
      (
        between,
        record { fresh = c.in-Ok.ensures.fresh; handed = c.in-Ok.ensures.held; dirs = c.in-Ok.ensures.dirs.0; closed = c.in-Ok.ensures.closed; quiet = c.in-Ok.ensures.fault.ok refl },
        refl,
      ),
      c.serve_alone.ensures.serves disk opened,
    )
