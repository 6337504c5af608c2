use Rattle.method.proofs.WordBits.{and_all, nand_all, or_any, nor_any, xor_odd, xnor_odd, bit_not}
use Rattle.std.proofs.Common.{rules}
use Rattle.method.proofs.words.gate.Goals as goal

pub returns-in-And : goal.returns-in-And
returns-in-And c l h = search (rules, and_all)

pub returns-in-Nand : goal.returns-in-Nand
returns-in-Nand c l h = search (rules, nand_all)

pub returns-in-Or : goal.returns-in-Or
returns-in-Or c l h = search (rules, or_any)

pub returns-in-Nor : goal.returns-in-Nor
returns-in-Nor c l h = search (rules, nor_any)

pub returns-in-Xor : goal.returns-in-Xor
returns-in-Xor c l h = search (rules, xor_odd)

pub returns-in-Xnor : goal.returns-in-Xnor
returns-in-Xnor c l h = search (rules, xnor_odd)

pub returns-in-Not : goal.returns-in-Not
returns-in-Not c l h = search (rules, bit_not)
