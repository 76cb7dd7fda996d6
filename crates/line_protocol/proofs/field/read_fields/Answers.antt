use Rattle.std.proofs.Common.{◌≡◌, ◌∷◌, List, ℕ, false, length, refl, sym, ap, ◌∙◌, lit<, arith}
use Rattle.tsdb_types.specs.Series.{measurement_ends_at}
use Rattle.line_protocol.specs.declared.spelled_field.SpelledField.{SpelledField}
use Rattle.line_protocol.specs.Fields.{Fields, field_of, fields_of, prefixed, fields_spelled}
use Rattle.line_protocol.specs.Parts.{front, rest, parts, parts_behind}
use Rattle.line_protocol.specs.Tokens.{part_at, rest_where}
use Rattle.line_protocol.proofs.ReadingLemmas.{first-refused, prefixed-nil, prefixed-end}
use Rattle.line_protocol.proofs.TextLemmas.{parts-line, behind-mark}
use Rattle.line_protocol.proofs.TokenLemmas.{rest-le}
use Rattle.line_protocol.proofs.WalkLemmas.{fields-step, fields-rest, fields-behind, last-front, last-behind}
use Rattle.line_protocol.proofs.field.read_fields.Goals as goal

pub parts-init : goal.parts-init
parts-init c = record {
  read = ap (λ (fs : List SpelledField). prefixed (fields_spelled fs) (fields_of (parts 44 false (front 32 false c.args.text.now)))) c.clear.ensures.items ∙ prefixed-nil (fields_of (parts 44 false (front 32 false c.args.text.now)));
  behind = refl;
  one_line = c.requires;
}

pub push_field-requires : goal.push_field-requires
push_field-requires c = (parts-line 44 (front 32 false c.parts.left.now) (lit< tt) c.parts.invariant.one_line).0

pub parts-preserved : goal.parts-preserved
parts-preserved c =
    let left = c.parts.left.now in
    let after = rest_where measurement_ends_at false left in
    let comma : after ≡ 44 ∷ c.in-Some.behind.now = sym c.in-Ok.ensures.rest ∙ c.in-Some.ensures.found in
    let next : parts_behind 44 (front 32 false after) ≡ parts 44 false (front 32 false c.in-Some.behind.now) = ap (λ (t : List ℕ). parts_behind 44 (front 32 false t)) comma in
    record {
      read =
          ap (λ (ps : List (List ℕ)). prefixed (fields_spelled c.push_field.new.fields.items) (fields_of ps)) (sym next)
          ∙ sym (c.in-Ok.ensures.ok (fields_of (parts_behind 44 (front 32 false after))))
          ∙ ap (λ (fs : Fields). prefixed (fields_spelled c.parts.fields.items) fs) (sym (ap fields_of (fields-step left)))
          ∙ c.parts.invariant.read;
      behind = sym (fields-behind left ∙ ap (λ (t : List ℕ). rest 32 false t) comma) ∙ c.parts.invariant.behind;
      one_line =
          behind-mark 44 (front 32 false left) 44 (front 32 false c.in-Some.behind.now) (lit< tt) c.parts.invariant.one_line
          (fields-rest left ∙ ap (λ (t : List ℕ). front 32 false t) comma);
    }

pub parts-smaller : goal.parts-smaller
parts-smaller c =
    omega (arith, ap (λ (t : List ℕ). length t) (sym c.in-Ok.ensures.rest ∙ c.in-Some.ensures.found), rest-le measurement_ends_at false c.parts.left.now)

pub returns-in-Err-clause-fields : goal.returns-in-Err-clause-fields
returns-in-Err-clause-fields c =
    let left = c.parts.left.now in
    first-refused c.in-Err.refusal (field_of (part_at left)) (fields_spelled c.parts.fields.items) (fields_of (parts_behind 44 (front 32 false (rest_where measurement_ends_at false left))))
    (fields_of (parts 44 false (front 32 false c.args.text.now)))
    (ap (λ (fs : Fields). prefixed (fields_spelled c.parts.fields.items) fs) (sym (ap fields_of (fields-step left))) ∙ c.parts.invariant.read) c.in-Err.ensures.refused

pub returns-in-None-clause-fields : goal.returns-in-None-clause-fields
returns-in-None-clause-fields c =
    let left = c.parts.left.now in
    let after = rest_where measurement_ends_at false left in
    sym c.parts.invariant.read
    ∙ ap (λ (fs : Fields). prefixed (fields_spelled c.parts.fields.items) fs) (ap fields_of (fields-step left))
    ∙ c.in-Ok.ensures.ok (fields_of (parts_behind 44 (front 32 false after)))
    ∙ ap (λ (t : List ℕ). prefixed (fields_spelled c.push_field.new.fields.items) (fields_of (parts_behind 44 t))) (last-front left c.in-Ok.rest.now c.in-Ok.ensures.rest c.in-None.ensures.none)
    ∙ prefixed-end (fields_spelled c.push_field.new.fields.items)

pub returns-in-None-clause-behind : goal.returns-in-None-clause-behind
returns-in-None-clause-behind c = last-behind c.parts.left.now c.in-Ok.rest.now c.in-Ok.ensures.rest c.in-None.ensures.none ∙ c.parts.invariant.behind
