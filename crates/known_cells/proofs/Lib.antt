mod Records
mod Clauses
