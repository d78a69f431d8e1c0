-- `law::fixed::add_product` meets its contract. Assumes nothing.
use Rattle.std.proofs.Common.{◌+ℤ◌, ◌*ℤ◌, w64, FitsSigned}
use Rattle.std.proofs.Math.Facts.{to_z-of_z}
use Rattle.law.proofs.Integers.{wide, widened, term_fits, total-fits}
use Rattle.law.proofs.fixed.add_product.Goals as goal
use Rattle.law.proofs.fixed.add_product.Lts as lts
use Rattle.law.proofs.fixed.add_product.Reads as reads

module _ (c : lts.Start reads.Pre reads.Post) where
  product : FitsSigned w64 (c.args.coefficient *ℤ c.args.x)
  product = term_fits c.args.total c.args.coefficient c.args.x c.requires.0 c.requires.1 c.ranges.x

  total : FitsSigned w64 (c.args.total +ℤ c.args.coefficient *ℤ c.args.x)
  total = total-fits c.args.total c.args.coefficient c.args.x c.requires.0 c.requires.1 c.ranges.x

pub overflow_cast-result : goal.overflow_cast-result
overflow_cast-result c = widened c.ranges.coefficient

pub overflow_cast-result-2 : goal.overflow_cast-result-2
overflow_cast-result-2 c = widened c.ranges.x

pub overflow_mul-result : goal.overflow_mul-result
overflow_mul-result c = let f = c.ranges in simp (to_z-of_z, f.coefficient, f.x, wide f.coefficient, wide f.x) (product c)

pub overflow_add-result : goal.overflow_add-result
overflow_add-result c = let f = c.ranges in simp (to_z-of_z, f.total, f.coefficient, f.x, wide f.coefficient, wide f.x, product c) (total c)

pub returns : goal.returns
returns c = let f = c.ranges in simp (to_z-of_z, f.total, f.coefficient, f.x, wide f.coefficient, wide f.x, product c, total c)
