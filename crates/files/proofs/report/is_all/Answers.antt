-- `files::report::is_all` meets its contract: a read that failed did not give nothing.
use Rattle.files.proofs.report.is_all.Goals as goal

pub returns-in-Err : goal.returns-in-Err
returns-in-Err c = let failed = c.in-Err.is in (λ yes. cc, λ all. cc)
