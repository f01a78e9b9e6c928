use Rattle.std.proofs.Common.{◌∙◌, sym, refl, inl, inr}
use Rattle.mx_intake.proofs.NumberLemmas.{many_digits, no_digits, reads_all, reads_other, some_digits}
use Rattle.mx_intake.proofs.number.read_number.Goals as goal

pub returns-then-is_empty : goal.returns-then-is_empty
returns-then-is_empty c =
    elim c.then-is_empty.either [
      | inl empty ↦ sym (no_digits c.args.bytes.now (sym c.is_empty.ensures ∙ empty))
      | inr long ↦ sym (many_digits c.args.bytes.now long.1)
    ]

pub returns-then-not-is_ascii_digit : goal.returns-then-not-is_ascii_digit
returns-then-not-is_ascii_digit c =
    sym (reads_other c.args.bytes.now c.loop-byte.byte-index c.loop-byte.number _ c.loop-byte-test.true refl
    (sym c.is_ascii_digit.ensures.value ∙ c.if-not-is_ascii_digit.true) c.loop-byte.invariant)

pub returns : goal.returns
returns c =
    sym (reads_all c.args.bytes.now c.loop-byte.byte-index c.loop-byte.number c.loop-byte-test.false
    (some_digits c.args.bytes.now (sym c.is_empty.ensures ∙ c.if-is_empty.false)) c.if-bytes-gt-MOST_DIGITS.false c.loop-byte.invariant)
