use Rattle.std.proofs.Common.{◌∙◌, ap, Some, arith, List, ℕ}
use Rattle.clap.specs.Words.{first_value, found_of}
use Rattle.command_words.specs.Meaning.{text_of}
use Rattle.command_words.specs.Table.{workers, pages}
use Rattle.command_words.proofs.OptionValues.{number_some, options_are}
use Rattle.command_words.proofs.options.options_of.Goals as goal

pub overflow_cast-result : goal.overflow_cast-result
overflow_cast-result c = omega (arith, (number_some 1 16 c.in_ok-workers.workers (text_of (first_value (found_of c.args.matches.now)) workers) c.in_ok-workers.ensures).2)

pub overflow_cast-pages : goal.overflow_cast-pages
overflow_cast-pages c = omega (arith, (number_some 0 1024 c.in_ok-pages.pages (text_of (first_value (found_of c.args.matches.now)) pages) c.in_ok-pages.ensures).2)

pub new-requires : goal.new-requires
new-requires c = (number_some 0 1024 c.in_ok-pages.pages (text_of (first_value (found_of c.args.matches.now)) pages) c.in_ok-pages.ensures).2

pub returns : goal.returns
returns c =
    options_are (first_value (found_of c.args.matches.now)) c.in_ok-workers.workers c.in_ok-pages.pages c.in_ok-fuel.fuel c.in_ok-traffic.traffic c.in_ok-live.live c.in_ok-idle.idle c.in_ok-name.name
    c.in_ok-workers.ensures c.in_ok-name.ensures c.in_ok-pages.ensures c.in_ok-fuel.ensures c.in_ok-traffic.ensures c.in_ok-live.ensures c.in_ok-idle.ensures
    ∙ ap (λ limits. Some (record {
      workers = c.in_ok-workers.workers;
      entry = c.in_ok-name.name;
      limits = limits;
      live = c.in_ok-live.live;
      idle = c.in_ok-idle.idle;
    })) (Rattle.std.proofs.Common.sym c.new.ensures)
