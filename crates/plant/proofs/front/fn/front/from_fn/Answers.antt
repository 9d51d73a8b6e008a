use Rattle.std.proofs.Common.{rules, tests}
use Rattle.plant.proofs.front.fn.front.from_fn.Goals as goal

pub returns-in-Some : goal.returns-in-Some
returns-in-Some g c = record {
  here = λ d l. record { shown = c.in-Some.item; shows = search rules; says = record { met = search rules } };
  beyond = λ l. search (rules, tests);
}
