use Rattle.std.proofs.Common.{◌≡◌, ◌/◌, ◌%◌, ◌^◌, ◌≤◌, eqb, sym, ap, arith, pow_pos}
use Rattle.std.proofs.lemmas.Nat.{div_below}
use Rattle.std.proofs.Math.Nat.{pow-le-pow_right}
use Rattle.method.proofs.words.bit.Goals as goal

pub returns-then-at-ge64 : goal.returns-then-at-ge64
returns-then-at-ge64 c =
    let w = c.args.word in
    let at = c.args.at in
    let le : 64 ≤ c.args.at = omega arith in
    let high : 2 ^ 64 ≤ 2 ^ c.args.at = pow-le-pow_right (omega arith) le in
    let none : c.args.word / 2 ^ c.args.at ≡ 0 = omega (arith, div_below w (2 ^ at) 1 (pow_pos at) (omega arith)) in
    sym (ap (λ n. eqb (n % 2) 1) none)
