mod Doubled
mod Queries
mod DrawnGames
mod Found
mod Runs
mod Totals
