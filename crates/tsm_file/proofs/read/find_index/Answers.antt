use Rattle.std.proofs.Common.{ℕ, ◌-◌, List, Ok, Err, inr, ap, ◌∙◌, subst}
use Rattle.shard_disk.specs.Directory.{bytes_at}
use Rattle.tsm_file.specs.ReadIndex.{IsUnframed}
use Rattle.tsm_file.proofs.IndexLemmas.{frames_of, same_damage}
use Rattle.tsm_file.proofs.read.find_index.Goals as goal

pub returns-in-Ok-clause-found : goal.returns-in-Ok-clause-found
returns-in-Ok-clause-found g c = λ tells.
    let bytes : List ℕ = g.R.Reader.content c.args.reader.now in
    let kept = c.in_ok-read_at.ensures.content in
    let foot = c.in_ok-read_at-2.ensures.read tells ∙ ap (λ (l : List ℕ). bytes_at l (c.args.len - 8) 8) kept in
    frames_of c.args.file c.args.len bytes c.read_at.new.out c.read_at-2.new.out (Ok c.in-Ok.start) (c.requires tells) c.if-len-lt-LEAST_LEN.false (c.in_ok-read_at.ensures.read tells) foot c.in-Ok.ensures

pub returns-in-Err-clause-damaged : goal.returns-in-Err-clause-damaged
returns-in-Err-clause-damaged g c = λ damage same tells.
    let bytes : List ℕ = g.R.Reader.content c.args.reader.now in
    let kept = c.in_ok-read_at.ensures.content in
    let foot = c.in_ok-read_at-2.ensures.read tells ∙ ap (λ (l : List ℕ). bytes_at l (c.args.len - 8) 8) kept in
    let frames = frames_of c.args.file c.args.len bytes c.read_at.new.out c.read_at-2.new.out (Err c.in-Err.damage) (c.requires tells) c.if-len-lt-LEAST_LEN.false (c.in_ok-read_at.ensures.read tells) foot c.in-Err.ensures in
    subst (IsUnframed c.args.file bytes) (same_damage c.in-Err.damage damage same) (inr frames)
