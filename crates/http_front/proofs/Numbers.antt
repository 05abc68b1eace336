-- Numbers of the command line.
use Rattle.std.proofs.Common.{◌≡◌, ℕ, ◌≤◌, Bool, ◌&&◌, nat_le, if◌then◌else◌, List, Ok, Err, arith}
use Rattle.std.proofs.lemmas.Bool.Decides.{nat_tests}
use Rattle.std.specs.Str.Parse.{digits_value}
use Rattle.script_lang.specs.declared.bad_line.BadLine.TheVariants.{BadNumber}
use Rattle.script_lang.specs.declared.numbers.Bounds.{Bounds}
use Rattle.script_lang.specs.Numbers.{is_number, number_in}

from_test : (a : Bool) (least most d n : ℕ) → (if a && (nat_le least d && nat_le d most) then Ok d else Err BadNumber) ≡ Ok n → least ≤ n
from_test a least most d n e = grind (arith, nat_tests)

pub at_least : (bounds : Bounds) (word : List ℕ) (n : ℕ) → number_in bounds word ≡ Ok n → bounds.least ≤ n
at_least bounds word n e = from_test (is_number word) bounds.least bounds.most (digits_value 10 word) n e
