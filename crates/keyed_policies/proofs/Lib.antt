mod Rows
mod WordRows
