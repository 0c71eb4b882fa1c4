-- The words of the pending table: each core's and card's own.
use Rattle.std.proofs.Common.{◌≡◌, ℕ, ◌+◌, ◌*◌, ◌/◌, ◌%◌, ◌<◌, sym, ap, ◌∙◌, mul-le-mul_right, suc-mul, arith}
use lib.Arith.{digits_div, digits_mod}

-- the word for core c and card d lies in the table
pub slot-inside : (cores o c d : ℕ) → c < cores → d < o → c * o + d < cores * o
slot-inside cores o c d hc hd = omega (arith, mul-le-mul_right o hc, suc-mul c o)

-- words for different cores or cards are different
pub slot-core : (o b c d e : ℕ) → d < o → e < o → b * o + d ≡ c * o + e → b ≡ c
slot-core o b c d e hd he p = sym (digits_div b hd) ∙ ap (λ (x : ℕ). x / o) p ∙ digits_div c he

pub slot-object : (o b c d e : ℕ) → d < o → e < o → b * o + d ≡ c * o + e → d ≡ e
slot-object o b c d e hd he p = sym (digits_mod b hd) ∙ ap (λ (x : ℕ). x % o) p ∙ digits_mod c he
