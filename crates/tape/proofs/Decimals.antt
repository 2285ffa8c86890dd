-- Decimal numbers, written digit by digit.
use Rattle.std.proofs.Common.{◌≡◌, ℕ, ◌+◌, ◌/◌, ◌%◌, ◌^◌, ◌<◌, ◌≤◌, List, [], ◌∷◌, length, decimal, sym, ap, ◌∙◌, arith, lit<, length-append}
use Rattle.std.proofs.lemmas.Fmt.{decimal_step, length-decimal-le}
use Rattle.tape.specs.Lines.{written}
use Rattle.tape.proofs.Texts.{written-written}

-- A decimal whose front is written: its last digit comes after.
pub decimal_more : (xs : List ℕ) (a e n : ℕ) → 10 ≤ n → n < 2 ^ 64 → a ≤ length xs → e ≡ a + length (decimal (n / 10)) → written (written xs a (decimal (n / 10))) e ((48 + n % 10) ∷ []) ≡ written xs a (decimal n)
decimal_more xs a e n big fits le is =
    written-written xs a e (decimal (n / 10)) ((48 + n % 10) ∷ []) is le ∙ ap (λ (t : List ℕ). written xs a t) (sym (decimal_step n big fits))

pub length-decimal_more : (n : ℕ) → 10 ≤ n → n < 2 ^ 64 → length (decimal n) ≡ length (decimal (n / 10)) + 1
length-decimal_more n big fits = ap length (decimal_step n big fits) ∙ length-append (decimal (n / 10)) ((48 + n % 10) ∷ [])

pub length-decimal_20 : (n : ℕ) → n < 2 ^ 64 → length (decimal n) ≤ 20
length-decimal_20 n fits = length-decimal-le 20 n (lit< tt) (omega arith) fits
