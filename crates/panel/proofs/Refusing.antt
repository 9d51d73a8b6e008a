-- The samples of refusals, computed.
use Rattle.std.proofs.Common.{refl}
use Rattle.std.specs.Fmt.{digits}
use Rattle.model.specs.Working.{rounds_from}
use Rattle.formats.specs.Texts.{read_text}
use Rattle.formats.specs.Sums.{read_sum}
use Rattle.panel.specs.Refusals.{RefusalsPrinted}

pub refusals_printed : RefusalsPrinted
unfolding read_text read_sum rounds_from digits
refusals_printed = record {
  net_kind = refl;
  net_empty = refl;
  net_end = refl;
  rules_place = refl;
  rules_empty = refl;
  orders_end = refl;
  orders_byte = refl;
  fixed_broken = refl;
  no_orders = refl;
  no_names = refl;
  not_open = refl;
  no_room = refl;
  two_rules = refl;
}
