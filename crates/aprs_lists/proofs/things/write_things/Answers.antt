use Rattle.aprs_lists.proofs.Common.{◌++◌, flat_map}
use Rattle.aprs_lists.proofs.ThingLines.{is_table}
use Rattle.aprs_lists.specs.Lines.{tabbed_line}
use Rattle.aprs_lists.specs.Things.{report_table_line, thing_columns}
use Rattle.aprs_lists.proofs.things.write_things.Goals as goal

pub returns : goal.returns
returns g c = (
  tabbed_line thing_columns ++ flat_map report_table_line c.objects.result,
  is_table _ _ c.objects.ensures,
  c.write_table.ensures,
)
