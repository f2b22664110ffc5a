-- Commands, pages and totals as C sees them.
use Rattle.std.specs.Prelude.{ℕ, ◌+◌, min, ◌^◌, ◌-◌, ◌==◌, if◌then◌else◌, Option, None, Some}
use Rattle.geometry.specs.declared.page_addr.PageAddr.{PageAddr}
use Rattle.durable.specs.declared.command.Command.{Command}
use Rattle.durable.specs.declared.command.Command.TheVariants.{Program, Copy, Erase, Refused}
use Rattle.durable_exports.specs.declared.codes.TheConstants.{WRITTEN}
use Rattle.durable_exports.specs.declared.reports.CommandReport.{CommandReport}
use Rattle.durable_exports.specs.declared.reports.PlaceReport.{PlaceReport}
use Rattle.durable_exports.specs.declared.reports.Totals.{Totals}

-- a page's address, as it is reported
abbrev pub place_report : PageAddr → PlaceReport
place_report at = record { block = at.block; page = at.page }

-- the page that a report names
abbrev pub page_at : PlaceReport → PageAddr
page_at place = record { block = place.block; page = place.page }

-- the page that a call found, if its code says that there is one
abbrev pub found_page : ℕ → PlaceReport → Option PageAddr
found_page code place = if code == WRITTEN then Some (page_at place) else None

-- a command for a sector's new version, as it is reported
abbrev pub report_of : ℕ → Command → CommandReport
report_of s (Program at n) =
    record { kind = 1; sector = s; from_block = 0; from_page = 0; block = at.block; page = at.page; number = n }
report_of s (Copy k from to) =
    record { kind = 2; sector = k; from_block = from.block; from_page = from.page; block = to.block; page = to.page; number = 0 }
report_of s (Erase b) = record { kind = 3; sector = 0; from_block = 0; from_page = 0; block = b; page = 0; number = 0 }
report_of s Refused = record { kind = 0; sector = 0; from_block = 0; from_page = 0; block = 0; page = 0; number = 0 }

-- a count with one more, up to the greatest of 64 bits
abbrev pub one_more : ℕ → ℕ
one_more n = min (n + 1) (2 ^ 64 - 1)

-- before anything was done
abbrev pub no_totals : Totals
no_totals = record { programs = 0; copies = 0; erases = 0 }

-- the totals once a command has succeeded
abbrev pub totals_with : Command → Totals → Totals
totals_with (Program at n) was = record { programs = one_more was.programs; copies = was.copies; erases = was.erases }
totals_with (Copy k from to) was = record { programs = was.programs; copies = one_more was.copies; erases = was.erases }
totals_with (Erase b) was = record { programs = was.programs; copies = was.copies; erases = one_more was.erases }
totals_with Refused was = was
