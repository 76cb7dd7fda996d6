use Rattle.std.proofs.Common.{◌≡◌, false, List, ℕ, [], ◌∷◌, ◌++◌, length, sym, ap, subst, ◌∙◌, lit<, arith}
use Rattle.std.specs.List.{All}
use Rattle.std.specs.Str.{IsUtf8}
use Rattle.std.proofs.lemmas.List.{append_assoc, map-append}
use Rattle.std.proofs.lemmas.List.Elements.{All-push}
use Rattle.line_protocol.specs.declared.sorted.Part.{Part}
use Rattle.line_protocol.specs.Names.{key_part}
use Rattle.line_protocol.specs.Parts.{parts_behind}
use Rattle.line_protocol.specs.Sorted.{texts_of}
use Rattle.line_protocol.specs.Texts.{IsOneLine, StartsAscii}
use Rattle.line_protocol.proofs.PartLemmas.{parts-step, rest-le}
use Rattle.line_protocol.proofs.TextLemmas.{behind-line, parts-line, rest-starts}
use Rattle.line_protocol.proofs.sorted.read_parts.Goals as goal

pub tags-smaller : goal.tags-smaller
tags-smaller c = omega (arith, ap (λ (t : List ℕ). length t) c.cut.ensures.rest, rest-le 44 false c.in-Some.behind.now, c.in-Some.ensures.cases.1)

pub tags-preserved : goal.tags-preserved
tags-preserved c =
    let old = c.tags.parts.items in
    let text = c.cut.result.0.now in
    let after = c.cut.result.1.now in
    let behind = c.in-Some.behind.now in
    let step = parts-step 44 c.tags.left.now _ behind text after c.in-Some.ensures.cases.0 c.cut.ensures.front c.cut.ensures.rest in
    let part : Part = record { key = c.cut-in-Some.result.0; text = c.cut.result.0 } in
    let pushed : c.push.new.self.items ≡ old ++ part ∷ [] = c.in_ok-push.ensures.items in
    let low = subst (λ (t : List ℕ). StartsAscii t) c.in-Some.ensures.cases.0 c.tags.invariant.start in
    let line = behind-line _ behind low (subst (λ (t : List ℕ). IsOneLine t) c.in-Some.ensures.cases.0 c.tags.invariant.one_line) in
    let both = parts-line 44 behind (lit< tt) line in
    record {
      texts =
          ap (λ (ps : List Part). texts_of ps ++ parts_behind 44 after) pushed
          ∙ ap (λ (ts : List (List ℕ)). ts ++ parts_behind 44 after) (map-append (λ (p : Part). p.text.now) old (part ∷ []))
          ∙ append_assoc (texts_of old) (text ∷ []) (parts_behind 44 after)
          ∙ ap (λ (ts : List (List ℕ)). texts_of old ++ ts) (sym step)
          ∙ c.tags.invariant.texts;
      cut = subst (λ (ps : List Part). All (λ (p : Part). p.key.now ≡ key_part p.text.now) ps) (sym pushed) (All-push (λ (p : Part). p.key.now ≡ key_part p.text.now) old part c.tags.invariant.cut c.cut-in-Some.ensures.front);
      utf8 = subst (λ (ps : List Part). All (λ (p : Part). IsUtf8 p.text.now) ps) (sym pushed)
          (All-push (λ (p : Part). IsUtf8 p.text.now) old part c.tags.invariant.utf8 (subst (λ (t : List ℕ). IsUtf8 t) (sym c.cut.ensures.front) both.0.utf8));
      start = subst (λ (t : List ℕ). StartsAscii t) (sym c.cut.ensures.rest) (rest-starts 44 false behind (lit< tt));
      one_line = subst (λ (t : List ℕ). IsOneLine t) (sym c.cut.ensures.rest) both.1;
    }
