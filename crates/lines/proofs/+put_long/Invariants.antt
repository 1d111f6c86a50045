use Rattle.lines.proofs.+put_long.Given as goal

-- the recursion goes on at n / 1000
abbrev pub decreases-put_long : goal.decreases-put_long
decreases-put_long l = l.n
