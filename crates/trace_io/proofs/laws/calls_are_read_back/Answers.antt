use Rattle.trace_io.proofs.CallTextLemmas.{call_of-text, text-misses, text-short, trace-read}
use Rattle.trace_io.proofs.laws.calls_are_read_back.Goals as goal

pub returns-clause-reads : goal.returns-clause-reads
returns-clause-reads c call fits = call_of-text call fits.0 fits.1

pub returns-clause-misses : goal.returns-clause-misses
returns-clause-misses c call fits = text-misses call fits.1

pub returns-clause-short : goal.returns-clause-short
returns-clause-short c call fits = text-short call fits.0 fits.1

pub returns-clause-trace : goal.returns-clause-trace
returns-clause-trace c calls fit = trace-read calls fit
