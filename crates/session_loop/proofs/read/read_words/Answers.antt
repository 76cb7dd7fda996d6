-- What stands behind the word of an INSERT is a text.
use Rattle.std.proofs.Common.{ℕ, List, subst, sym}
use Rattle.std.specs.Str.{IsUtf8}
use Rattle.session_loop.proofs.WordLemmas.{behind_text}
use Rattle.session_loop.proofs.read.read_words.Goals as goal

pub read_protocol-requires : goal.read_protocol-requires
read_protocol-requires c = behind_text c.as_bytes.result.now c.in-Some.text.now (subst (λ (t : List ℕ). IsUtf8 t) (sym c.as_bytes.ensures.value) c.utf8.line) c.in-Some.ensures
