use mathlib.Core.Path.{sym, ap, ◌∙◌}
use lib.ListN.{length}
use Rattle.utf8.specs.declared.Encoded.{Encoded}
use Rattle.utf8.specs.Encoding.{bytes_of}
use Rattle.utf8.proofs.Encodings.{encoded-one, encoded-two, encoded-three, encoded-four, encoded-none}
use Rattle.utf8.proofs.encoded_length.Goals as goal

pub returns-then-point-lt128 : goal.returns-then-point-lt128
returns-then-point-lt128 c = ap (λ (e : Encoded). length (bytes_of e)) (encoded-one _ c.if-point-lt128.true)

pub returns-then-point-lt2048 : goal.returns-then-point-lt2048
returns-then-point-lt2048 c = ap (λ (e : Encoded). length (bytes_of e)) (encoded-two _ c.if-point-lt128.false c.if-point-lt2048.true)

pub returns-then-not-is_scalar : goal.returns-then-not-is_scalar
returns-then-not-is_scalar c = ap (λ (e : Encoded). length (bytes_of e)) (encoded-none _ (sym c.is_scalar.ensures ∙ c.if-not-is_scalar.true))

pub returns-then-point-lt65536 : goal.returns-then-point-lt65536
returns-then-point-lt65536 c = ap (λ (e : Encoded). length (bytes_of e)) (encoded-three _ c.if-point-lt2048.false c.if-point-lt65536.true (sym c.is_scalar.ensures ∙ c.if-not-is_scalar.false))

pub returns : goal.returns
returns c = ap (λ (e : Encoded). length (bytes_of e)) (encoded-four _ c.if-point-lt65536.false (sym c.is_scalar.ensures ∙ c.if-not-is_scalar.false))
