use Rattle.std.proofs.Common.{None, sym, arith, rules}
use Rattle.lines.proofs.Numbers.{number_in_empty, number_in_zero, number_in_digits, number_in_cases}
use Rattle.lines.proofs.decimals.read_number.Goals as goal

pub returns-in-empty : goal.returns-in-empty
returns-in-empty c =
    let none = sym (number_in_empty c.args.most c.args.field.now (search rules)) in
    record { value = none; cases = number_in_cases _ _ None (omega arith) none }

pub returns-in-48 : goal.returns-in-48
returns-in-48 c =
    let none = sym (number_in_zero c.args.most c.args.field.now (search rules) (search rules)) in
    record { value = none; cases = number_in_cases _ _ None (omega arith) none }

pub returns-in_default : goal.returns-in_default
returns-in_default c = search (rules, number_in_digits, number_in_cases)
