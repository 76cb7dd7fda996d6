-- The words are the three of the command.
use Rattle.std.proofs.Common.{◌≡◌, ℕ, List, [], ◌∷◌, ap, ◌∙◌, sym, arith, map}
use Rattle.std.specs.String.{string_bytes}
use Rattle.std.proofs.lemmas.Slice.Eq.{bytes_eq-Decides}
use Rattle.session_io.specs.declared.client.Word.{Word}
use Rattle.tsm_server.proofs.Three.{three}
use Rattle.tsm_server.proofs.words.mem_names.Goals as goal

pub returns-then-is_plain-2 : goal.returns-then-is_plain-2
returns-then-is_plain-2 c =
    let name : List ℕ = 109 ∷ 101 ∷ 109 ∷ [] in
    let is_mem : string_bytes c.name-item.result.text ≡ name =
    sym c.as_str.ensures.value ∙ (bytes_eq-Decides c.as_str.result.now name).0 (sym c.eq.ensures ∙ c.if-eq.true) in
    let input = c.as_str-input.ensures.value in
    let output = c.as_str-output.ensures.value in
    record {
      spelled = ap (map (λ (word : Word). string_bytes word.text)) (three c.args.words.now c.name-item.result c.input-item.result c.output-item.result
          (omega (arith, c.in-len3.len_at_least, c.in-len3.len_below)) c.name-item.is c.input-item.is c.output-item.is)
          ∙ cc (is_mem, input, output);
      plain_input = c.is_plain.ensures.0 c.if-is_plain.true;
      plain_output = c.is_plain-then-is_plain.ensures.0 c.if-is_plain-2.true;
    }
