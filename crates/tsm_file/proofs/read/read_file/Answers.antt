use Rattle.std.proofs.Common.{◌≡◌, ℕ, ◌-◌, List, Ok, Err, inr, sym, ap, ◌∙◌, subst, rules}
use Rattle.shard_disk.specs.Directory.{bytes_at}
use Rattle.shard_disk.specs.declared.damage.Damage.{Damage}
use Rattle.tsm_format.specs.Faults.{Reads}
use Rattle.tsm_file.specs.ReadIndex.{Index, HasIndex, ReadsFile, index_from}
use Rattle.tsm_file.proofs.IndexLemmas.{has_index, same_damage}
use Rattle.tsm_file.proofs.read.read_file.Goals as goal

pub returns-in-Ok-clause-found : goal.returns-in-Ok-clause-found
returns-in-Ok-clause-found g c = λ tells.
    let bytes : List ℕ = g.R.Reader.content c.args.reader.now in
    let start = c.in_ok-start.start in
    let index = c.of_rows.ensures in
    let frames = c.in_ok-start.ensures.found tells in
    let read : c.deref.result.now ≡ index_from bytes start =
    c.deref.ensures.value ∙ c.in_ok-bytes.ensures.read tells ∙ ap (λ (l : List ℕ). bytes_at l start (c.args.len - 8 - start)) c.in_ok-start.ensures.content
    ∙ ap (λ (n : ℕ). bytes_at bytes start (n - 8 - start)) (c.requires tells) in
    let reads = subst (λ (l : List ℕ). Reads c.args.file start l (Ok c.in-Ok.rows.items)) read c.in-Ok.ensures.found in
    let has = has_index c.args.file bytes start c.in-Ok.rows.items frames reads in
    (ap (λ (i : Index). i.file) index, subst (λ (i : Index). HasIndex bytes i.rows) (sym index) has)

pub returns-in-Err-Damaged-clause-damaged : goal.returns-in-Err-Damaged-clause-damaged
returns-in-Err-Damaged-clause-damaged g c = λ damage same tells.
    let bytes : List ℕ = g.R.Reader.content c.args.reader.now in
    let start = c.in_ok-start.start in
    let own = c.in-Err-Damaged.damage in
    let frames = c.in_ok-start.ensures.found tells in
    let read : c.deref.result.now ≡ index_from bytes start =
    c.deref.ensures.value ∙ c.in_ok-bytes.ensures.read tells ∙ ap (λ (l : List ℕ). bytes_at l start (c.args.len - 8 - start)) c.in_ok-start.ensures.content
    ∙ ap (λ (n : ℕ). bytes_at bytes start (n - 8 - start)) (c.requires tells) in
    let reads = subst (λ (l : List ℕ). Reads c.args.file start l (Err own)) read (c.in-Err-Damaged.ensures.damaged own (search rules)) in
    subst (λ (d : Damage). ReadsFile c.args.file bytes (Err d)) (same_damage own damage same) (inr (start, frames, reads))
