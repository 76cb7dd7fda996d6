-- The words are the two of the command.
use Rattle.std.proofs.Common.{◌≡◌, ℕ, List, [], ◌∷◌, ap, ◌∙◌, sym, arith, map}
use Rattle.std.specs.String.{string_bytes}
use Rattle.std.proofs.lemmas.Slice.Eq.{bytes_eq-Decides}
use Rattle.session_io.specs.declared.client.Word.{Word}
use Rattle.tsm_server.proofs.Three.{two}
use Rattle.tsm_server.proofs.words.shell_path.Goals as goal

pub returns-then-is_plain : goal.returns-then-is_plain
returns-then-is_plain c =
    let name : List ℕ = 115 ∷ 104 ∷ 101 ∷ 108 ∷ 108 ∷ [] in
    let is_shell : string_bytes c.name-item.result.text ≡ name =
    sym c.as_str.ensures.value ∙ (bytes_eq-Decides c.as_str.result.now name).0 (sym c.eq.ensures ∙ c.if-eq.true) in
    let path = c.as_str-path.ensures.value in
    record {
      spelled = ap (map (λ (word : Word). string_bytes word.text)) (two c.args.words.now c.name-item.result c.path-item.result
          (omega (arith, c.in-len2.len_at_least, c.in-len2.len_below)) c.name-item.is c.path-item.is)
          ∙ cc (is_shell, path);
      plain = c.is_plain.ensures.0 c.if-is_plain.true;
    }
